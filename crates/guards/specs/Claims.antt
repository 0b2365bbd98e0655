-- The types that tests speak of.
use Rattle.type_arena.specs.Term.{Term}
use Rattle.type_fields.specs.Plain.{plain_term}
use Rattle.type_normal.specs.Kinds.{text_type, table_type, other_type}
use Rattle.type_normal.specs.Operations.{not_free, union}
use Rattle.guards.specs.declared.claims.Claim.{Claim}
use Rattle.guards.specs.declared.claims.Claim.TheVariants.{Is, IsNot, TableOrOther, Text, NotText}

-- the values of a kind or all but those, the tables and the values of no other kind, one string or all values but it
abbrev pub claim_type : Claim → Term
claim_type (Is kind) = plain_term kind
claim_type (IsNot kind) = not_free (plain_term kind)
claim_type TableOrOther = union table_type other_type
claim_type (Text bytes) = text_type bytes.now
claim_type (NotText bytes) = not_free (text_type bytes.now)
