-- Each step keeps a search sound, and leaves fewer steps.
use Rattle.std.proofs.Common.{◌≡◌, ◌≢◌, ℕ, zero, suc, ◌+◌, ◌-◌, ◌<◌, ◌≤◌, List, [], ◌∷◌, ◌++◌, length, refl, ap, sym, subst, ◌∙◌, arith, inl, inr}
use Rattle.std.specs.Prelude.{Option, Some, None, slice_get, Contains, ◌⊎◌}
use Rattle.std.proofs.Common.{get_or}
use Rattle.std.proofs.lemmas.Option.{slice_get_within, get_or_from_slice_get}
use Rattle.module_graph.specs.declared.node.Call.{Call}
use Rattle.module_graph.specs.declared.node.Node.{Node}
use Rattle.module_graph.specs.declared.search.Mark.{Mark}
use Rattle.module_graph.specs.declared.search.Mark.TheVariants.{New, Open, Closed}
use Rattle.module_graph.specs.Requires.{calls_at, Requires}
use Rattle.module_graph.specs.Search.{State, IsGraph, IsSearch, IsMet, Has, Rises, Leads, entered, advanced, with_starts, with_path, closing, Merges, Meets, new, back, known, Follows, nowhere, somewhere, Leaves, inner, first, last_of, Settles, steps_left}
use Rattle.module_graph.proofs.Lists.{Rises-highest, get-below}
use Rattle.module_graph.proofs.Leading.{Requires-at, Leads-step, Leads-trans, Leads-same}
use Rattle.module_graph.proofs.Entering.{IsSearch-entered, IsMet-entered, Settles-entered, kept-entered}
use Rattle.module_graph.proofs.Advancing.{IsSearch-advanced, Settles-advanced}
use Rattle.module_graph.proofs.Merging.{Leads-top, IsSearch-merged, IsMet-merged}
use Rattle.module_graph.proofs.Leaving.{IsSearch-left}
use Rattle.module_graph.proofs.Closing.{IsSearch-closed, Settles-closed}
use Rattle.module_graph.proofs.Steps.{steps-entered, steps-advanced, steps-left, steps-closed}

-- one step: the search stays sound, what is closed stays, and fewer steps are left
pub record Goes (nodes : List Node) (before after : State) : Type 0 where
  pub search : IsSearch nodes after
  pub settles : Settles before after
  pub shorter : steps_left nodes after < steps_left nodes before

pub Settles-same : (s : State) → Settles s s
Settles-same s = record { closed = (λ x n e. e); fresh = (λ x e. e) }

pub Settles-trans : (a b c : State) → Settles a b → Settles b c → Settles a c
Settles-trans a b c one more = record { closed = (λ x n e. more.closed x n (one.closed x n e)); fresh = (λ x e. one.fresh x (more.fresh x e)) }

module _ (nodes : List Node) (graph : IsGraph nodes) (s : State) (sound : IsSearch nodes s) (at : ℕ) (last : last_of s.path ≡ Some at) where
  pub on_path : Has s.path at
  on_path = (length s.path - 1, last)

  pub top : (r : ℕ) → Has s.path r → r ≤ at
  top r has = Rises-highest s.path at sound.path_rises last r has

  pub at_within : at < length s.opened
  at_within = sound.path_in at on_path

  module _ (x next : ℕ) (open' : slice_get s.marks x ≡ Some (Open at next)) where
    here : slice_get s.opened at ≡ Some x
    here = sound.there x at next open'

    pub x_within : x < length nodes
    x_within = let within = slice_get_within s.marks x (Open at next) open' in let same = sound.marked in omega arith

    module _ (call : Call) (called : slice_get (calls_at nodes x) next ≡ Some call) where
      -- a require that means no module
      Goes-nowhere : call.to ≡ None → Goes nodes s (advanced s x at next)
      Goes-nowhere none = record {
        search = IsSearch-advanced nodes s sound x at next open' call called (λ y means. cc);
        settles = Settles-advanced nodes s sound x at next open' call called (λ y means. cc);
        shorter = steps-advanced nodes s sound.marked x at next call open' called;
      }

      -- what holds between
      record Between (t : State) (y : ℕ) : Type 0 where
        search : IsSearch nodes t
        settles : Settles s t
        open_still : slice_get t.marks x ≡ Some (Open at next)
        met : IsMet t at y
        no_longer : steps_left nodes t ≤ steps_left nodes s

      Between-meets : (t : State) (y : ℕ) → call.to ≡ Some y → Meets s t y → Between t y
      Between-meets t y means (new fresh same) =
          let leads : (p z : ℕ) → slice_get s.opened p ≡ Some z → Leads nodes z y = (λ p z e.
          Leads-trans nodes z x y (Leads-top nodes s sound at x here top p z e) (Leads-step nodes x y y (Requires-at nodes x y next call called means) (Leads-same nodes y y refl))) in
          let shorter : steps_left nodes (entered s y) < steps_left nodes s = steps-entered nodes s sound.marked y fresh in
          subst (λ (u : State). Between u y) (sym same) (record {
            search = IsSearch-entered nodes s sound y fresh leads;
            settles = Settles-entered nodes s sound y fresh leads;
            open_still = kept-entered nodes s sound y fresh leads x (Open at next) open' (λ e. cc);
            met = IsMet-entered nodes s sound y fresh leads at at_within;
            no_longer = omega arith;
          })
      Between-meets t y means (back q n starts back_at merges same) =
          subst (λ (u : State). Between u y) (sym same) (record {
            search = IsSearch-merged nodes s sound x at next next y q n call open' top called means back_at starts merges;
            settles = record { closed = (λ z m e. e); fresh = (λ z e. e) };
            open_still = open';
            met = IsMet-merged nodes s sound x at next next y q n call open' top called means back_at starts merges;
            no_longer = omega arith;
          })
      Between-meets t y means (known n closed same) =
          subst (λ (u : State). Between u y) (sym same) (record {
            search = sound;
            settles = record { closed = (λ z m e. e); fresh = (λ z e. e) };
            open_still = open';
            met = inl (n, closed);
            no_longer = omega arith;
          })

      Goes-somewhere : (t : State) (y : ℕ) → call.to ≡ Some y → Between t y → Goes nodes s (advanced t x at next)
      Goes-somewhere t y means h =
          let leads : (z : ℕ) → call.to ≡ Some z → IsMet t at z = (λ z also.
          let both : Some y ≡ Some z = sym means ∙ also in
          let one : y ≡ z = cc in
          subst (λ (i : ℕ). IsMet t at i) one h.met) in
          let shorter : steps_left nodes (advanced t x at next) < steps_left nodes t = steps-advanced nodes t h.search.marked x at next call h.open_still called in
          let less = h.no_longer in
          record {
            search = IsSearch-advanced nodes t h.search x at next h.open_still call called leads;
            settles = Settles-trans s t (advanced t x at next) h.settles (Settles-advanced nodes t h.search x at next h.open_still call called leads);
            shorter = omega arith;
          }

      pub Goes-follows : (t : State) → Follows s t x at next call.to → Goes nodes s t
      Goes-follows t (nowhere none same) = subst (λ (u : State). Goes nodes s u) (sym same) (Goes-nowhere none)
      Goes-follows t (somewhere y between means meets same) =
          subst (λ (u : State). Goes nodes s u) (sym same) (Goes-somewhere between y means (Between-meets between y means meets))

    module _ (done : length (calls_at nodes x) ≤ next) where
      -- no group begins at the last place of the path unless the last one does
      not_start : (last_of s.starts ≡ Some at → ⊥) → Has s.starts at → ⊥
      not_start differ has =
          let within : has.0 < length s.starts = slice_get_within s.starts has.0 at has.1 in
          let y = get-below s.starts (length s.starts - 1) (omega arith) in
          let low : y.0 ≤ at = top y.0 (sound.starts_in y.0 (length s.starts - 1, y.1)) in
          let high : at ≤ y.0 = Rises-highest s.starts y.0 sound.starts_rise y.1 at has in
          let same : y.0 ≡ at = omega arith in
          differ (y.1 ∙ ap Some same)

      pub Goes-leaves : (t : State) → Leaves s t at → Goes nodes s t
      Goes-leaves t (inner path parted differ same) =
          subst (λ (u : State). Goes nodes s u) (sym same) (record {
            search = IsSearch-left nodes s sound x at next open' path parted done (not_start differ);
            settles = record { closed = (λ z m e. e); fresh = (λ z e. e) };
            shorter = steps-left nodes s sound.marked path at parted;
          })
      Goes-leaves t (first path starts parted begins same) =
          subst (λ (u : State). Goes nodes s u) (sym same) (record {
            search = IsSearch-closed nodes s sound x at next open' path parted done starts begins;
            settles = Settles-closed nodes s sound x at next open' path parted done starts begins;
            shorter = steps-closed nodes s sound.marked path starts at parted;
          })

-- the mark of the module at the last place of the path
pub mark-at : (nodes : List Node) (s : State) → IsSearch nodes s → (at x a next : ℕ) (mark : Mark) → slice_get s.opened at ≡ Some x → mark ≡ get_or s.marks x mark → mark ≡ Open a next → slice_get s.marks x ≡ Some (Open at next)
mark-at nodes s sound at x a next mark e is_at is =
    let h = sound.placed at x e in
    let found : get_or s.marks x mark ≡ Open at h.0 = get_or_from_slice_get s.marks x (Open at h.0) mark h.1 in
    let marks : Open at h.0 ≡ Open a next = sym found ∙ (sym is_at ∙ is) in
    let same : h.0 ≡ next = cc in
    h.1 ∙ ap (λ k. Some (Open at k)) same
