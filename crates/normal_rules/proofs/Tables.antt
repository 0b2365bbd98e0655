-- The types of declared builtins, as the rules have them.
use Rattle.std.proofs.Common.{ℕ, List, [], ◌∷◌, map, refl}
use Rattle.std.specs.Prelude.{Option, Some, None, option_map}
use Rattle.std.specs.List.{AllByRecursion}
use Rattle.builtin_table.specs.declared.table.Kinds.{Kinds}
use Rattle.builtin_table.specs.declared.table.Kinds.TheVariants.{Unknown, Number, Text, Boolean, Table, Function, OptionalNumber, OptionalText, OptionalBoolean, OptionalFunction, TableOrOther}
use Rattle.builtin_table.specs.declared.table.Line.{Line}
use Rattle.builtin_table.specs.Standard.{Declared, declared_by, standard}
use Rattle.type_decl.specs.Signatures.{Signature, term_of_kinds, signature_of, standard_table}
use Rattle.module_reading.specs.ReadRules.{typed_builtin}
use Rattle.normal_rules.specs.Normal.{IsNormal, IsNormalIf, HasNormalSignature, IsNormalSignature, AreNormalSignatures}

pub table_normal : (table : List (List ℕ × Signature)) → AreNormalSignatures table → AllByRecursion HasNormalSignature (map typed_builtin table)
table_normal [] all = tt
table_normal (entry ∷ table) all =
    (record { params = all.0.params; rest = all.0.rest; results = all.0.results; more = all.0.more }, table_normal table all.1)

-- ---- the standard table

kinds_normal : (kinds : Kinds) → IsNormal (term_of_kinds kinds)
kinds_normal Unknown = refl
kinds_normal Number = refl
kinds_normal Text = refl
kinds_normal Boolean = refl
kinds_normal Table = refl
kinds_normal Function = refl
kinds_normal OptionalNumber = refl
kinds_normal OptionalText = refl
kinds_normal OptionalBoolean = refl
kinds_normal OptionalFunction = refl
kinds_normal TableOrOther = refl

kinds_list : (kinds : List Kinds) → AllByRecursion IsNormal (map term_of_kinds kinds)
kinds_list [] = tt
kinds_list (k ∷ kinds) = (kinds_normal k, kinds_list kinds)

kinds_maybe : (kinds : Option Kinds) → IsNormalIf (option_map term_of_kinds kinds)
kinds_maybe None = tt
kinds_maybe (Some k) = kinds_normal k

signature_normal : (d : Declared) → IsNormalSignature (signature_of d)
signature_normal d = record { params = kinds_list d.params; rest = kinds_maybe d.rest; results = kinds_list d.results; more = kinds_maybe d.more }

lines_normal : (lines : List (List ℕ × Line)) → AreNormalSignatures (map (λ entry. (entry.0, signature_of (declared_by entry.1))) lines)
lines_normal [] = tt
lines_normal (line ∷ lines) = (signature_normal (declared_by line.1), lines_normal lines)

pub standard_normal : AreNormalSignatures standard_table
standard_normal = lines_normal standard
