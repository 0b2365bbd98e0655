use Rattle.std.proofs.Common.{refl, subst}
use Rattle.builtin_table.specs.Standard.{Declared}
use Rattle.builtin_table.specs.Seen.{seen}
use Rattle.type_decl.specs.Signatures.{signature_of}
use Rattle.type_decl.specs.Tables.{Grew, IsMeant}
use Rattle.type_decl.specs.declared.sig.Sig.{Sig}
use Rattle.type_decl.proofs.Means.{grew_both, mean_later, maybe_later, sig_meant}
use Rattle.type_decl.proofs.building.sig_of.Goals as goal

pub returns-clause-means : goal.returns-clause-means
returns-clause-means c =
    let sig : Sig = record { params = c.in_ok-params.params; rest = c.in_ok-rest.rest; results = c.in_ok-results.results; more = c.in_ok-more.more; checked = c.declared_by-declaration.result.checked; quiet = c.declared_by-declaration.result.quiet } in
    let last : Grew c.type_refs-2.new.arena c.maybe_type_ref-2.new.arena = c.in_ok-more.ensures.grew in
    let two = grew_both c.maybe_type_ref.new.arena c.type_refs-2.new.arena c.maybe_type_ref-2.new.arena c.in_ok-results.ensures.grew last in
    let three = grew_both c.type_refs.new.arena c.maybe_type_ref.new.arena c.maybe_type_ref-2.new.arena c.in_ok-rest.ensures.grew two in
    subst (λ (d : Declared). IsMeant c.maybe_type_ref-2.new.arena sig (signature_of d)) c.declared_by-declaration.ensures
    (sig_meant c.maybe_type_ref-2.new.arena sig (seen c.declared_by-declaration.result)
    (mean_later c.type_refs.new.arena c.maybe_type_ref-2.new.arena _ _ three.keeps c.in_ok-params.ensures.means)
    (maybe_later c.maybe_type_ref.new.arena c.maybe_type_ref-2.new.arena _ _ two.keeps c.in_ok-rest.ensures.means)
    (mean_later c.type_refs-2.new.arena c.maybe_type_ref-2.new.arena _ _ last.keeps c.in_ok-results.ensures.means)
    c.in_ok-more.ensures.means refl refl)
