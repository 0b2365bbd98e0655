use Rattle.std.proofs.Common.{◌≡◌, ◌-◌, ap, sym, ◌∙◌, refl, arith, List, ℕ, length}
use Rattle.std.specs.Prelude.{slice_get, Some, vec_len}
use Rattle.module_graph.specs.Search.{inner, first, last_of}
use Rattle.module_graph.proofs.Lists.{popped-last, same-option, other-option}
use Rattle.module_graph.proofs.search.Search.leave.Goals as goal

pub returns-in_ok-close : goal.returns-in_ok-close
returns-in_ok-close c =
    let path = popped-last c.args.self.now.path.items c.pop.new.self.items c.pop.result c.args.at (vec_len c.args.self.now.path) (omega arith) c.pop.ensures.items (c.pop.ensures.value 0) c.requires.last in
    let last : c.copied.result ≡ last_of c.args.self.now.starts.items = c.copied.ensures ∙ (c.last.ensures.value ∙ ap (λ (l : List ℕ). last_of l) c.deref.ensures.value) in
    let begins : last_of c.args.self.now.starts.items ≡ Some c.args.at = sym last ∙ same-option c.copied.result c.args.at (sym c.if-eq.ensures) in
    let starts = popped-last c.args.self.now.starts.items c.pop-then-eq.new.self.items c.pop-then-eq.result c.args.at (vec_len c.args.self.now.starts) (omega arith) c.pop-then-eq.ensures.items (c.pop-then-eq.ensures.value 0) begins in
    first c.pop.new.self.items c.pop-then-eq.new.self.items path.1 starts.1 c.in_ok-close.ensures

pub returns-else-eq : goal.returns-else-eq
returns-else-eq c =
    let path = popped-last c.args.self.now.path.items c.pop.new.self.items c.pop.result c.args.at (vec_len c.args.self.now.path) (omega arith) c.pop.ensures.items (c.pop.ensures.value 0) c.requires.last in
    let last : c.copied.result ≡ last_of c.args.self.now.starts.items = c.copied.ensures ∙ (c.last.ensures.value ∙ ap (λ (l : List ℕ). last_of l) c.deref.ensures.value) in
    inner c.pop.new.self.items path.1 (λ same. other-option c.copied.result c.args.at (sym c.if-eq.ensures) (last ∙ same)) refl
