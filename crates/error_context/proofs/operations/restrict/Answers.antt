use Rattle.std.proofs.Common.{sym, ap, ◌∙◌, subst}
use Rattle.std.specs.Prelude.{Contains}
use Rattle.type_arena.specs.Arena.{store_of}
use Rattle.type_arena.specs.Meaning.{term_of}
use Rattle.error_context.specs.Entries.{Entries, context_of, refs_in, entries_without, IsContext}
use Rattle.error_context.proofs.KeptFacts.{kept_entries, kept_context, kept_among}
use Rattle.error_context.proofs.operations.restrict.Goals as goal

pub returns-clause-sets : goal.returns-clause-sets
returns-clause-sets c arena local =
    ap (λ (es : Entries). context_of arena es local) (c.of-entries.ensures ∙ c.retained-kept.ensures ∙ ap (entries_without c.args.without.now) c.into_vec-old.ensures)
    ∙ kept_entries (term_of (store_of arena)) c.args.without.now c.args.a.entries local

pub returns-clause-context : goal.returns-clause-context
returns-clause-context c arena context =
    subst (IsContext arena) (sym (c.of-entries.ensures ∙ c.retained-kept.ensures ∙ ap (entries_without c.args.without.now) c.into_vec-old.ensures))
    (kept_context arena c.args.without.now c.args.a.entries context)

pub returns-clause-among : goal.returns-clause-among
returns-clause-among c at inside =
    kept_among c.args.without.now c.args.a.entries at
    (subst (λ (es : Entries). Contains (refs_in es) at) (c.of-entries.ensures ∙ c.retained-kept.ensures ∙ ap (entries_without c.args.without.now) c.into_vec-old.ensures) inside)
