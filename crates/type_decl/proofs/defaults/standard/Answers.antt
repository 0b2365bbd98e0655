use Rattle.std.proofs.Common.{◌≡◌, length, get_or, ap, sym, ◌∙◌, arith}
use Rattle.std.proofs.lemmas.List.{get_or_default}
use Rattle.builtin_table.specs.Standard.{declared_by}
use Rattle.type_arena.specs.Arena.{below_of, store_of}
use Rattle.type_arena.specs.Store.{Holding}
use Rattle.type_arena.specs.Meaning.{term_of}
use Rattle.type_decl.specs.Signatures.{signature_of}
use Rattle.type_decl.specs.Tables.{meant}
use Rattle.type_decl.proofs.Means.{grew_both, sigs_more}
use Rattle.type_decl.proofs.Whole.{Entry, names_ascend, whole, as_many, names_more, at_end, stand, sound_alone, there_alone}
use Rattle.type_decl.proofs.defaults.standard.Goals as goal

pub loop-entry-preserved : goal.loop-entry-preserved
loop-entry-preserved c = record {
  names =
      names_more c.paths-entries.result.now c.loop-entry.entry-index _ c.loop-entry.names.items c.push.new.self.items c.of.result c.loop-entry-test.true c.loop-entry.invariant.names
      (c.of.ensures ∙ c.in_ok-from_slice.ensures.items) c.in_ok-push.ensures.items;
  grew = grew_both c.in_ok-arena.arena c.loop-entry.arena c.sig_of.new.arena c.loop-entry.invariant.grew c.in_ok-sig.ensures.grew;
  sigs =
      sigs_more (λ (e : Entry). signature_of (declared_by e.1)) c.loop-entry.arena c.sig_of.new.arena c.loop-entry.sigs.items c.push-in-loop-entry.new.self.items c.in_ok-sig.sig c.paths-entries.result.now c.loop-entry.entry-index
      (get_or c.paths-entries.result.now c.loop-entry.entry-index _) c.loop-entry-test.true (get_or_default c.paths-entries.result.now c.loop-entry.entry-index _ _ c.loop-entry-test.true)
      c.in_ok-sig.ensures.grew.keeps c.loop-entry.invariant.sigs c.in_ok-sig.ensures.means c.in_ok-push-2.ensures.items;
}

pub of-requires-2 : goal.of-requires-2
of-requires-2 c =
    let e : c.loop-entry.entry-index ≡ length c.paths-entries.result.now = omega (arith, c.loop-entry-test.false, c.loop-entry.auto.entry-index-end) in
    names_ascend c.paths-entries.result.now c.loop-entry.names.items c.paths-entries.ensures
    (c.loop-entry.invariant.names ∙ at_end (λ (x : Entry). x.0.now) c.paths-entries.result.now c.loop-entry.entry-index e) c.paths_stand_in_order.ensures.ascending

pub invariant_of-result : goal.invariant_of-result
invariant_of-result c =
    let e : c.loop-entry.entry-index ≡ length c.paths-entries.result.now = omega (arith, c.loop-entry-test.false, c.loop-entry.auto.entry-index-end) in
    record {
      as_many =
          ap length c.of-2.ensures
          ∙ as_many (meant (term_of (store_of c.loop-entry.arena))) (λ (x : Entry). signature_of (declared_by x.1)) c.paths-entries.result.now c.loop-entry.names.items c.loop-entry.sigs.items
          (c.loop-entry.invariant.names ∙ at_end (λ (x : Entry). x.0.now) c.paths-entries.result.now c.loop-entry.entry-index e)
          (c.loop-entry.invariant.sigs.means c.loop-entry.arena (λ at node h. h) ∙ at_end (λ (x : Entry). signature_of (declared_by x.1)) c.paths-entries.result.now c.loop-entry.entry-index e)
          ∙ sym (ap length c.of-3.ensures);
      home = ap (λ (h : Holding). h.home) c.freeze.ensures.nodes ∙ c.loop-entry.invariant.grew.home ∙ c.in_ok-arena.ensures.home;
      sound = sound_alone (below_of c.loop-entry.arena) c.freeze.result (c.loop-entry.invariant.grew.below ∙ c.in_ok-arena.ensures.below ∙ c.shelf.ensures) c.freeze.ensures.stands;
      there =
          there_alone c.loop-entry.arena c.freeze.result c.of-3.result c.loop-entry.sigs.items
          (stand c.loop-entry.arena c.freeze.result (c.loop-entry.invariant.grew.below ∙ c.in_ok-arena.ensures.below ∙ c.shelf.ensures) c.freeze.ensures.nodes)
          c.of-3.ensures (c.loop-entry.invariant.sigs.there c.loop-entry.arena (λ at node h. h));
    }

pub returns-clause-table : goal.returns-clause-table
returns-clause-table c =
    let e : c.loop-entry.entry-index ≡ length c.paths-entries.result.now = omega (arith, c.loop-entry-test.false, c.loop-entry.auto.entry-index-end) in
    whole c.loop-entry.arena c.freeze.result c.paths-entries.result.now c.of-2.result c.loop-entry.names.items c.of-3.result c.loop-entry.sigs.items
    (c.loop-entry.invariant.grew.below ∙ c.in_ok-arena.ensures.below ∙ c.shelf.ensures) c.freeze.ensures.nodes c.paths-entries.ensures
    (c.loop-entry.invariant.names ∙ at_end (λ (x : Entry). x.0.now) c.paths-entries.result.now c.loop-entry.entry-index e) c.of-2.ensures c.of-3.ensures
    (c.loop-entry.invariant.sigs.means c.loop-entry.arena (λ at node h. h) ∙ at_end (λ (x : Entry). signature_of (declared_by x.1)) c.paths-entries.result.now c.loop-entry.entry-index e)

pub returns-clause-sound : goal.returns-clause-sound
returns-clause-sound c = sound_alone (below_of c.loop-entry.arena) c.freeze.result (c.loop-entry.invariant.grew.below ∙ c.in_ok-arena.ensures.below ∙ c.shelf.ensures) c.freeze.ensures.stands

pub returns-clause-there : goal.returns-clause-there
returns-clause-there c =
    there_alone c.loop-entry.arena c.freeze.result c.of-3.result c.loop-entry.sigs.items
    (stand c.loop-entry.arena c.freeze.result (c.loop-entry.invariant.grew.below ∙ c.in_ok-arena.ensures.below ∙ c.shelf.ensures) c.freeze.ensures.nodes)
    c.of-3.ensures (c.loop-entry.invariant.sigs.there c.loop-entry.arena (λ at node h. h))
