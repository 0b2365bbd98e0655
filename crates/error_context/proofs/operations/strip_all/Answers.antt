use Rattle.std.proofs.Common.{[], ap, sym, ◌∙◌, subst}
use Rattle.type_arena.specs.Arena.{store_of}
use Rattle.type_arena.specs.Meaning.{term_of}
use Rattle.type_arena.specs.Term.{never}
use Rattle.type_normal.specs.HeapFree.{strip}
use Rattle.std.specs.Prelude.{All}
use Rattle.type_normal.specs.Adds.{Adds}
use Rattle.type_normal.specs.Growing.{given_refs, IsClean}
use Rattle.error_context.specs.Entries.{Entries, entry_or, refs_in, locals_in, AscendFrom, AreThere, HaveTypes, is_cut}
use Rattle.error_context.proofs.SideFacts.{entry_under}
use Rattle.error_context.proofs.operations.strip_all.Goals as goal

pub one-requires-clause-sorted : goal.one-requires-clause-sorted
one-requires-clause-sorted c = subst (λ (es : Entries). AscendFrom 0 (locals_in es)) (sym c.as_slice-old.ensures) c.requires.sorted

pub one-requires-clause-there : goal.one-requires-clause-there
one-requires-clause-there c = subst (λ (es : Entries). AreThere c.args.arena.now (refs_in es)) (sym c.as_slice-old.ensures) c.requires.there

pub one-requires-clause-taken : goal.one-requires-clause-taken
one-requires-clause-taken c = subst (λ (es : Entries). HaveTypes c.args.arena.now is_cut (refs_in es)) (sym c.as_slice-old.ensures) c.requires.cut

pub returns-clause-sets : goal.returns-clause-sets
returns-clause-sets c l =
    c.in_ok-entries.ensures.entries l
    ∙ ap (λ (es : Entries). entry_or never (λ at. strip (term_of (store_of c.args.arena.now) at)) es l) c.as_slice-old.ensures
    ∙ entry_under strip never (term_of (store_of c.args.arena.now)) c.args.a.now.entries l

pub returns-clause-clean : goal.returns-clause-clean
returns-clause-clean c =
    subst (λ (es : Entries). All (IsClean c.args.arena.now c.one.new.arena (given_refs (refs_in es))) (refs_in c.in_ok-entries.entries)) c.as_slice-old.ensures c.in_ok-entries.ensures.clean

pub returns-clause-adds : goal.returns-clause-adds
returns-clause-adds c = subst (λ (es : Entries). Adds c.args.arena.now c.one.new.arena (given_refs (refs_in es)) []) c.as_slice-old.ensures c.one.ensures.adds

pub returns-in_err-entries-clause-adds : goal.returns-in_err-entries-clause-adds
returns-in_err-entries-clause-adds c = subst (λ (es : Entries). Adds c.args.arena.now c.one.new.arena (given_refs (refs_in es)) []) c.as_slice-old.ensures c.one.ensures.adds
