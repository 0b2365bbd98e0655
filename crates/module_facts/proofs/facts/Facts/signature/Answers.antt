use Rattle.std.proofs.Common.{ap, ◌∙◌, option_map, Bor}
use Rattle.type_arena.specs.Meaning.{term_of}
use Rattle.type_decl.specs.Tables.{alone, declared_in, meant}
use Rattle.type_decl.specs.Signatures.{Signature}
use Rattle.type_decl.specs.declared.sig.Sig.{Sig}
use Rattle.module_reading.specs.ReadRules.{typed_builtin}
use Rattle.module_facts.specs.Facts.{rules_of_facts}
use Rattle.module_facts.proofs.Signatures.{read_signature, typed_declaration}
use Rattle.module_facts.proofs.facts.Facts.signature.Goals as goal

pub returns : goal.returns
unfolding rules_of_facts
returns c =
    let table = c.args.self.now.table.now in
    read_signature (λ (r : Bor Sig). r.now) (meant (term_of (alone table.arena))) c.args.path.now c.get.result
    ∙ ap (option_map (λ (s : Signature). typed_builtin (c.args.path.now, s))) c.get.ensures.means
    ∙ typed_declaration (declared_in table.arena table.paths table.sigs) c.args.path.now
