use Rattle.std.proofs.Common.{sym, ap, ◌∙◌, subst}
use Rattle.std.specs.Prelude.{Option, IfSome, Contains}
use Rattle.std.specs.Option.{option_map_or}
use Rattle.type_arena.specs.Arena.{store_of}
use Rattle.type_arena.specs.Meaning.{term_of}
use Rattle.type_arena.specs.Term.{never}
use Rattle.type_arena.specs.declared.node.TypeRef.{TypeRef}
use Rattle.error_context.specs.Entries.{Entries, entry_at, refs_in}
use Rattle.error_context.proofs.KeptFacts.{entry_is, entry_among}
use Rattle.error_context.proofs.context.Context.set_of.Goals as goal

pub returns-clause-set : goal.returns-clause-set
returns-clause-set c arena =
    entry_is (term_of (store_of arena)) c.args.self.now.entries c.args.local.0
    ∙ ap (λ (o : Option TypeRef). option_map_or (term_of (store_of arena)) o never) (sym (c.entry_of.ensures ∙ ap (λ (es : Entries). entry_at es c.args.local.0) c.as_slice-entries.ensures))

pub returns-clause-among : goal.returns-clause-among
returns-clause-among c =
    subst (λ (o : Option TypeRef). IfSome o (Contains (refs_in c.args.self.now.entries))) (sym (c.entry_of.ensures ∙ ap (λ (es : Entries). entry_at es c.args.local.0) c.as_slice-entries.ensures))
    (entry_among c.args.self.now.entries c.args.local.0)
