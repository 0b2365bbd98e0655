-- The types of whole kinds of values are in normal form.
use Rattle.std.proofs.Common.{◌≡◌, refl}
use Rattle.std.specs.Prelude.{true}
use Rattle.type_normal.specs.Rows.{is_normal}
use Rattle.type_fields.specs.Plain.{plain_term, failing_term}
use Rattle.type_fields.specs.declared.plain.Plain.{Plain}
use Rattle.type_fields.specs.declared.plain.Plain.TheVariants.{Never, Unknown, Nil, True, False, Boolean, Number, AnyString, AnyFunction, Other, AnyTable, FrozenTable, Falsy, Truthy}
use Rattle.type_fields.specs.declared.failing.Operation.{Operation}
use Rattle.type_fields.specs.declared.failing.Operation.TheVariants.{Call, Index, Write, Arith, Length, Iterate, OrderWithNumber, OrderWithString}

pub plain_normal : (kind : Plain) → is_normal (plain_term kind) ≡ true
plain_normal Never = refl
plain_normal Unknown = refl
plain_normal Nil = refl
plain_normal True = refl
plain_normal False = refl
plain_normal Boolean = refl
plain_normal Number = refl
plain_normal AnyString = refl
plain_normal AnyFunction = refl
plain_normal Other = refl
plain_normal AnyTable = refl
plain_normal FrozenTable = refl
plain_normal Falsy = refl
plain_normal Truthy = refl

pub failing_normal : (operation : Operation) → is_normal (failing_term operation) ≡ true
failing_normal Call = refl
failing_normal Index = refl
failing_normal Write = refl
failing_normal Arith = refl
failing_normal Length = refl
failing_normal Iterate = refl
failing_normal OrderWithNumber = refl
failing_normal OrderWithString = refl
