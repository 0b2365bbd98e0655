use Rattle.std.proofs.Common.{arith, ◌≡◌, ◌∙◌, List, ℕ, map, length, ap, sym, subst}
use Rattle.std.proofs.lemmas.Grind.{common_steps}
use Rattle.std.proofs.lemmas.List.{length-map}
use Rattle.type_decl.specs.Tables.{alone, AreThere}
use Rattle.type_decl.specs.declared.sig.Sig.{Sig}
use Rattle.type_decl.proofs.table.SigTable.of.Goals as goal

pub invariant_of-result : goal.invariant_of-result
invariant_of-result c =
    let same : c.loop-name.given.items ≡ map (λ (e : List ℕ × Sig). e.1) c.args.sigs.items = grind (arith, common_steps) in
    let names : c.loop-name.names.items ≡ map (λ (e : List ℕ × Sig). e.0) c.args.sigs.items = grind (arith, common_steps) in
    record {
      as_many =
          ap length c.of-2.ensures ∙ ap length names ∙ length-map c.args.sigs.items (λ (e : List ℕ × Sig). e.0)
          ∙ sym (length-map c.args.sigs.items (λ (e : List ℕ × Sig). e.1)) ∙ sym (ap length same) ∙ sym (ap length c.of-3.ensures);
      home = c.requires.home;
      sound = c.requires.closed;
      there = subst (λ (ss : List Sig). AreThere (alone c.args.arena) ss) (sym (c.of-3.ensures ∙ same)) c.requires.there;
    }
