-- The steps that a search still takes.
use Rattle.std.proofs.Common.{◌≡◌, ◌≢◌, ℕ, zero, suc, ◌+◌, ◌-◌, ◌<◌, ◌≤◌, List, [], ◌∷◌, ◌++◌, Bool, true, false, length, refl, ap, sym, subst, ◌∙◌, arith, inl, inr, length-append}
use Rattle.std.specs.Prelude.{Some, None, map, slice_get, slice_set, ◌⊎◌, nat_le, if◌then◌else◌}
use Rattle.std.proofs.lemmas.Option.{slice_get_within}
use Rattle.module_graph.specs.declared.node.Call.{Call}
use Rattle.module_graph.specs.declared.node.Node.{Node}
use Rattle.module_graph.specs.declared.search.Mark.{Mark}
use Rattle.module_graph.specs.declared.search.Mark.TheVariants.{New, Open, Closed}
use Rattle.module_graph.specs.Requires.{calls_at}
use Rattle.module_graph.specs.Search.{State, close_mark, entered, advanced, with_starts, with_path, closing, work_of, work_left, steps_left}

-- the work that is left after a mark is written
pub work_left-set : (nodes : List Node) (marks : List Mark) (x : ℕ) (was now : Mark) → length marks ≡ length nodes → slice_get marks x ≡ Some was → work_left nodes (slice_set marks x now) + work_of (length (calls_at nodes x)) was ≡ work_left nodes marks + work_of (length (calls_at nodes x)) now
work_left-set nodes [] x was now same e = cc
work_left-set [] (mark ∷ marks) x was now same e = absurd (omega arith)
work_left-set (node ∷ nodes) (mark ∷ marks) zero was now same e =
    let one : mark ≡ was = cc in
    let worth : work_of (length node.calls) mark ≡ work_of (length node.calls) was = ap (work_of (length node.calls)) one in
    omega arith
work_left-set (node ∷ nodes) (mark ∷ marks) (suc x) was now same e =
    let rest = work_left-set nodes marks x was now (omega arith) e in
    omega arith

close_mark-work : (calls start number : ℕ) (mark : Mark) → work_of calls (close_mark start number mark) ≤ work_of calls mark
close_mark-work calls start number New = omega arith
close_mark-work calls start number (Closed n) = omega arith
close_mark-work calls start number (Open at next) = go (nat_le start at) refl
  where
    go : (test : Bool) → nat_le start at ≡ test → work_of calls (close_mark start number (Open at next)) ≤ work_of calls (Open at next)
    go true e = let same : work_of calls (close_mark start number (Open at next)) ≡ 0 = ap (λ (b : Bool). work_of calls (if b then Closed number else Open at next)) e in omega arith
    go false e = let same : work_of calls (close_mark start number (Open at next)) ≡ calls - next = ap (λ (b : Bool). work_of calls (if b then Closed number else Open at next)) e in omega arith

-- closing leaves no more work
pub work_left-closed : (nodes : List Node) (marks : List Mark) (start number : ℕ) → work_left nodes (map (close_mark start number) marks) ≤ work_left nodes marks
work_left-closed [] marks start number = omega arith
work_left-closed (node ∷ nodes) [] start number = omega arith
work_left-closed (node ∷ nodes) (mark ∷ marks) start number =
    let rest = work_left-closed nodes marks start number in
    let first = close_mark-work (length node.calls) start number mark in
    omega arith

module _ (nodes : List Node) (s : State) (marked : length s.marks ≡ length nodes) where
  pub steps-entered : (y : ℕ) → slice_get s.marks y ≡ Some New → steps_left nodes (entered s y) < steps_left nodes s
  steps-entered y fresh =
      let work = work_left-set nodes s.marks y New (Open (length s.opened) 0) marked fresh in
      let more = length-append s.path (length s.opened ∷ []) in
      omega arith

  pub steps-advanced : (x p next : ℕ) (call : Call) → slice_get s.marks x ≡ Some (Open p next) → slice_get (calls_at nodes x) next ≡ Some call → steps_left nodes (advanced s x p next) < steps_left nodes s
  steps-advanced x p next call open' here =
      let work = work_left-set nodes s.marks x (Open p next) (Open p (next + 1)) marked open' in
      let within = slice_get_within (calls_at nodes x) next call here in
      omega arith

  pub steps-left : (path : List ℕ) (p : ℕ) → s.path ≡ path ++ p ∷ [] → steps_left nodes (with_path s path) < steps_left nodes s
  steps-left path p last =
      let more : length s.path ≡ length path + 1 = ap length last ∙ length-append path (p ∷ []) in
      omega arith

  pub steps-closed : (path starts : List ℕ) (p : ℕ) → s.path ≡ path ++ p ∷ [] → steps_left nodes (with_path (closing s p starts) path) < steps_left nodes s
  steps-closed path starts p last =
      let more : length s.path ≡ length path + 1 = ap length last ∙ length-append path (p ∷ []) in
      let work = work_left-closed nodes s.marks p (length s.order) in
      omega arith
