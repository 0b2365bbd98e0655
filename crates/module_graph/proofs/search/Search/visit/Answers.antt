use Rattle.std.proofs.Common.{◌≡◌, ◌<◌, ℕ, length, ap, sym, ◌∙◌, arith, subst}
use Rattle.std.specs.Prelude.{slice_get, Some}
use Rattle.std.proofs.lemmas.Option.{slice_get-get_or, get_or_from_slice_get}
use Rattle.module_graph.specs.declared.search.Mark.TheVariants.{New, Open}
use Rattle.module_graph.specs.Search.{State, state_of, entered, IsSearch, Settles, Leads}
use Rattle.module_graph.proofs.Entering.{IsSearch-entered, Settles-entered, now_open}
use Rattle.module_graph.proofs.Ending.{nothing_opened, closed-if_met}
use Rattle.module_graph.proofs.Stepping.{Settles-same, Settles-trans}
use Rattle.module_graph.proofs.search.Search.visit.Goals as goal

pub run-requires-clause-search : goal.run-requires-clause-search
run-requires-clause-search c =
    let marked = c.requires.search.marked in
    let within : c.args.file < length c.args.self.now.marks.items = (let file = c.requires.file in omega arith) in
    let fresh : slice_get c.args.self.now.marks.items c.args.file ≡ Some New = slice_get-get_or c.args.self.now.marks.items c.args.file c.index.result.now within ∙ (ap Some (sym c.index.ensures) ∙ ap Some c.in-New.is) in
    let led : (p x : ℕ) → slice_get c.args.self.now.opened.items p ≡ Some x → Leads c.args.nodes.now x c.args.file = (λ p x e. absurd (nothing_opened c.args.nodes.now (state_of c.args.self.now) c.requires.search c.requires.path p x e)) in
    subst (λ (s : State). IsSearch c.args.nodes.now s) (sym c.in_ok-enter.ensures) (IsSearch-entered c.args.nodes.now (state_of c.args.self.now) c.requires.search c.args.file fresh led)

pub returns-in_ok-run-clause-settles : goal.returns-in_ok-run-clause-settles
returns-in_ok-run-clause-settles c =
    let marked = c.requires.search.marked in
    let within : c.args.file < length c.args.self.now.marks.items = (let file = c.requires.file in omega arith) in
    let fresh : slice_get c.args.self.now.marks.items c.args.file ≡ Some New = slice_get-get_or c.args.self.now.marks.items c.args.file c.index.result.now within ∙ (ap Some (sym c.index.ensures) ∙ ap Some c.in-New.is) in
    let led : (p x : ℕ) → slice_get c.args.self.now.opened.items p ≡ Some x → Leads c.args.nodes.now x c.args.file = (λ p x e. absurd (nothing_opened c.args.nodes.now (state_of c.args.self.now) c.requires.search c.requires.path p x e)) in
    Settles-trans (state_of c.args.self.now) (state_of c.enter.new.self) (state_of c.run.new.self)
    (subst (λ (s : State). Settles (state_of c.args.self.now) s) (sym c.in_ok-enter.ensures) (Settles-entered c.args.nodes.now (state_of c.args.self.now) c.requires.search c.args.file fresh led))
    c.in_ok-run.ensures.settles

pub returns-in_ok-run-clause-closed : goal.returns-in_ok-run-clause-closed
returns-in_ok-run-clause-closed c =
    let marked = c.requires.search.marked in
    let within : c.args.file < length c.args.self.now.marks.items = (let file = c.requires.file in omega arith) in
    let fresh : slice_get c.args.self.now.marks.items c.args.file ≡ Some New = slice_get-get_or c.args.self.now.marks.items c.args.file c.index.result.now within ∙ (ap Some (sym c.index.ensures) ∙ ap Some c.in-New.is) in
    let led : (p x : ℕ) → slice_get c.args.self.now.opened.items p ≡ Some x → Leads c.args.nodes.now x c.args.file = (λ p x e. absurd (nothing_opened c.args.nodes.now (state_of c.args.self.now) c.requires.search c.requires.path p x e)) in
    closed-if_met c.args.nodes.now (state_of c.run.new.self) c.in_ok-run.ensures.search c.in_ok-run.ensures.path c.args.file c.requires.file (λ e.
    let before : slice_get (state_of c.enter.new.self).marks c.args.file ≡ Some New = c.in_ok-run.ensures.settles.fresh c.args.file e in
    let same : slice_get (state_of c.enter.new.self).marks c.args.file ≡ slice_get (entered (state_of c.args.self.now) c.args.file).marks c.args.file = ap (λ (s : State). slice_get s.marks c.args.file) c.in_ok-enter.ensures in
    let open' = now_open c.args.nodes.now (state_of c.args.self.now) c.requires.search c.args.file fresh led in
    cc)

pub returns-in_default : goal.returns-in_default
returns-in_default c =
    record {
      search = c.requires.search;
      settles = Settles-same (state_of c.args.self.now);
      path = c.requires.path;
      closed = closed-if_met c.args.nodes.now (state_of c.args.self.now) c.requires.search c.requires.path c.args.file c.requires.file (λ e. c.in_default.not-New (c.index.ensures ∙ get_or_from_slice_get c.args.self.now.marks.items c.args.file New c.index.result.now e));
    }
