use Rattle.std.proofs.Common.{◌≡◌, ℕ, ◌-◌, ◌+◌, ◌<◌, ◌≤◌, ◌++◌, List, length, ap, sym, ◌∙◌, arith, subst, get_or}
use Rattle.std.specs.Prelude.{slice_get, Some, option_to_list, vec_len}
use Rattle.module_graph.specs.Search.{Merges, Rises, Has}
use Rattle.module_graph.proofs.Lists.{Merges-more, popped-last, Rises-highest, Rises-front}
use Rattle.module_graph.proofs.search.merge.Goals as goal

pub loop-start-preserved : goal.loop-start-preserved
loop-start-preserved c =
    let inv = c.loop-start.invariant in
    let last : slice_get c.loop-start.starts.items (length c.loop-start.starts.items - 1) ≡ Some c.in-Some.field-0.now =
    sym (c.in-Some.ensures.value ∙ ap (λ (l : List ℕ). slice_get l (length l - 1)) c.deref.ensures.value) in
    let popped : c.pop.result ≡ Some c.in-Some.field-0.now =
    (popped-last c.loop-start.starts.items c.pop.new.self.items c.pop.result c.in-Some.field-0.now (vec_len c.loop-start.starts) (omega arith) c.pop.ensures.items (c.pop.ensures.value 0) last).0 in
    Merges-more c.args.starts.now.items c.loop-start.starts.items c.pop.new.self.items inv.0 c.args.at c.in-Some.field-0.now c.pop.result inv.1 c.pop.ensures.items popped c.if-start-at.false inv.2

pub returns-then-start-at : goal.returns-then-start-at
returns-then-start-at c =
    let inv = c.loop-start.invariant in
    let last : slice_get c.loop-start.starts.items (length c.loop-start.starts.items - 1) ≡ Some c.in-Some.field-0.now =
    sym (c.in-Some.ensures.value ∙ ap (λ (l : List ℕ). slice_get l (length l - 1)) c.deref.ensures.value) in
    let rises : Rises c.loop-start.starts.items = Rises-front c.loop-start.starts.items inv.0 (subst (λ (l : List ℕ). Rises l) inv.1 c.requires) in
    record {
      dropped = inv.0;
      parted = inv.1;
      above = inv.2;
      kept = (λ p has. let le = Rises-highest c.loop-start.starts.items c.in-Some.field-0.now rises last p has in let low = c.if-start-at.true in omega arith);
    }
