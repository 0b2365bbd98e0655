-- Declarations, as the rules read them out of a table of signatures.
use Rattle.std.proofs.Common.{◌≡◌, ℕ, Bool, true, false, List, [], ◌∷◌, map, refl, sym, ap}
use Rattle.std.specs.Prelude.{Option, Some, None, option_map, if◌then◌else◌}
use Rattle.std.specs.List.{find}
use Rattle.std.specs.Str.{bytes_eq}
use Rattle.std.proofs.lemmas.Slice.Eq.{bytes_eq-Decides}
use Rattle.type_decl.specs.Signatures.{Signature, declaration}
use Rattle.type_decl.specs.declared.sig.Sig.{Sig}
use Rattle.module_reading.specs.ReadRules.{typed_builtin}

pub typed_declaration : (table : List (List ℕ × Signature)) (path : List ℕ) → option_map (λ s. typed_builtin (path, s)) (declaration path table) ≡ find (λ b. bytes_eq b.path path) (map typed_builtin table)
typed_declaration [] path = refl
typed_declaration (entry ∷ table) path = by_test (bytes_eq entry.0 path) refl (typed_declaration table path)
  where
    by_test : (b : Bool) → bytes_eq entry.0 path ≡ b → option_map (λ s. typed_builtin (path, s)) (declaration path table) ≡ find (λ c. bytes_eq c.path path) (map typed_builtin table)
        → option_map (λ s. typed_builtin (path, s)) (option_map (λ e. e.1) (if b then Some entry else find (λ e. bytes_eq e.0 path) table))
        ≡ (if b then Some (typed_builtin entry) else find (λ c. bytes_eq c.path path) (map typed_builtin table))
    by_test true q k = ap (λ (p : List ℕ). Some (typed_builtin (p, entry.1))) (sym ((bytes_eq-Decides entry.0 path).0 q))
    by_test false q k = k

-- what code reads of a signature, where it has it behind a reference
pub read_signature : {R : Type 0} (now : R → Sig) (means : Sig → Signature) (path : List ℕ) (found : Option R)
    → option_map (λ r. typed_builtin (path, means (now r))) found ≡ option_map (λ s. typed_builtin (path, s)) (option_map means (option_map now found))
read_signature now means path None = refl
read_signature now means path (Some r) = refl
