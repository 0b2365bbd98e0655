-- Facts on the heap at the start of a run.
use Rattle.std.proofs.Common.{◌≡◌, ◌≢◌, ℕ, zero, suc, ◌<◌, Bool, true, false, ◌==◌, List, [], ◌∷◌, ◌++◌, map, length, drop, slice_get, Option, Some, None, refl, sym, ◌∙◌, ap, subst, arith, true≢false, append_assoc, if◌then◌else◌}
use Rattle.std.specs.List.{list_any, starts_with}
use Rattle.std.specs.Str.{bytes_eq}
use Rattle.std.proofs.Math.Seq.{drop-append_seam}
use Rattle.std.proofs.lemmas.Slice.Eq.{bytes_eq-Decides, starts_is}
use Rattle.std.proofs.lemmas.Bool.Decides.{Decides-eqb}
use Rattle.luau_values.specs.Value.{Value, Nil, Builtin}
use Rattle.luau_values.specs.Heap.{Field, Table, value_of, is_frozen, field_of}
use Rattle.luau_values.specs.Start.{after_prefix, library_fields, libraries, start_heap}
use Rattle.luau_values.proofs.HeapFacts.{same_name, other_name}

all_frozen : (fields : List ℕ → List Field) (libs : List (List ℕ)) (a : ℕ) → a < length libs
    → is_frozen (map (λ l. record { frozen = true; fields = fields l }) libs) a ≡ true
all_frozen fields [] a l = absurd (omega arith)
all_frozen fields (x ∷ libs) zero l = refl
all_frozen fields (x ∷ libs) (suc a) l = all_frozen fields libs a (omega arith)

table_of : (fields : List ℕ → List Field) (libs : List (List ℕ)) (a : ℕ) (l name : List ℕ) → slice_get libs a ≡ Some l
    → field_of (map (λ l. record { frozen = true; fields = fields l }) libs) a name ≡ value_of name (fields l)
table_of fields [] a l name e = cc
table_of fields (x ∷ libs) zero l name e = let k : x ≡ l = cc in ap (λ (y : List ℕ). value_of name (fields y)) k
table_of fields (x ∷ libs) (suc a) l name e = table_of fields libs a l name e

map_length : (f : List ℕ → Table) (libs : List (List ℕ)) → length (map f libs) ≡ length libs
map_length f [] = refl
map_length f (x ∷ libs) = ap suc (map_length f libs)

begins : (p t : List ℕ) → starts_with ◌==◌ (p ++ t) p ≡ true
begins p t = (starts_is Decides-eqb (p ++ t) p _ refl).1 t refl

follows_own : (p t : List ℕ) → after_prefix p (p ++ t) ≡ Some t
follows_own p t = rw (begins p t) (ap Some (drop-append_seam p t))

follows_if : (p t n : List ℕ) (b : Bool) → starts_with ◌==◌ t p ≡ b → after_prefix p t ≡ Some n → t ≡ p ++ n
follows_if p t n true e h =
    let j : Some (drop (length p) t) ≡ Some n = rw e at h in
    let k : drop (length p) t ≡ n = cc in
    (starts_is Decides-eqb t p _ refl).0 e ∙ ap (λ (x : List ℕ). p ++ x) k
follows_if p t n false e h = let k : None ≡ Some n = rw e at h in cc

follows : (p t n : List ℕ) → after_prefix p t ≡ Some n → t ≡ p ++ n
follows p t n h = follows_if p t n (starts_with ◌==◌ t p) refl h

-- what a list of paths gives a library at a name
abbrev declared : List (List ℕ) → List ℕ → List ℕ → Value
declared paths l name = if list_any (bytes_eq (l ++ 46 ∷ name)) paths then Builtin (l ++ 46 ∷ name) else Nil

-- one path more: it is this library's field of this name, another field of it, or none of its fields
one_more : (l name path : List ℕ) (paths : List (List ℕ)) (o : Option (List ℕ)) (b : Bool) → after_prefix (l ++ 46 ∷ []) path ≡ o → bytes_eq (l ++ 46 ∷ name) path ≡ b
    → value_of name (library_fields l paths) ≡ declared paths l name → value_of name (library_fields l (path ∷ paths)) ≡ declared (path ∷ paths) l name
one_more l name path paths None true e d ih =
    let k : l ++ 46 ∷ name ≡ path = (bytes_eq-Decides (l ++ 46 ∷ name) path).0 d in
    let m : after_prefix (l ++ 46 ∷ []) ((l ++ 46 ∷ []) ++ name) ≡ Some name = follows_own (l ++ 46 ∷ []) name in
    let n : (l ++ 46 ∷ []) ++ name ≡ path = append_assoc l (46 ∷ []) name ∙ k in
    let q : None ≡ Some name = sym e ∙ subst (λ (t : List ℕ). after_prefix (l ++ 46 ∷ []) t ≡ Some name) n m in
    cc
one_more l name path paths None false e d ih = rw (e, d) ih
one_more l name path paths (Some rest) true e d ih =
    let k : l ++ 46 ∷ name ≡ path = (bytes_eq-Decides (l ++ 46 ∷ name) path).0 d in
    let m : after_prefix (l ++ 46 ∷ []) ((l ++ 46 ∷ []) ++ name) ≡ Some name = follows_own (l ++ 46 ∷ []) name in
    let n : (l ++ 46 ∷ []) ++ name ≡ path = append_assoc l (46 ∷ []) name ∙ k in
    let q : Some rest ≡ Some name = sym e ∙ subst (λ (t : List ℕ). after_prefix (l ++ 46 ∷ []) t ≡ Some name) n m in
    let r : rest ≡ name = cc in
    rw (e, d) (rw (same_name rest name r) (ap Builtin (sym k)))
one_more l name path paths (Some rest) false e d ih =
    let k : path ≡ (l ++ 46 ∷ []) ++ rest = follows (l ++ 46 ∷ []) path rest e in
    let ne : rest ≢ name = λ r. absurd (true≢false (sym (same_name (l ++ 46 ∷ name) path (ap (λ (t : List ℕ). l ++ 46 ∷ t) (sym r) ∙ sym (k ∙ append_assoc l (46 ∷ []) rest))) ∙ d)) in
    rw (e, d) (rw (other_name rest name ne) ih)

fields_declared : (l name : List ℕ) (paths : List (List ℕ)) → value_of name (library_fields l paths) ≡ declared paths l name
fields_declared l name [] = refl
fields_declared l name (path ∷ paths) =
    one_more l name path paths (after_prefix (l ++ 46 ∷ []) path) (bytes_eq (l ++ 46 ∷ name) path) refl refl (fields_declared l name paths)

pub start_length : (paths : List (List ℕ)) → length (start_heap paths) ≡ length (libraries paths)
start_length paths = map_length (λ k. record { frozen = true; fields = library_fields k paths }) (libraries paths)

pub start_frozen : (paths : List (List ℕ)) (a : ℕ) → a < length (start_heap paths) → is_frozen (start_heap paths) a ≡ true
start_frozen paths a l =
    all_frozen (λ k. library_fields k paths) (libraries paths) a (subst (λ (n : ℕ). a < n) (map_length (λ k. record { frozen = true; fields = library_fields k paths }) (libraries paths)) l)

pub start_fields : (paths : List (List ℕ)) (a : ℕ) (l name : List ℕ) → slice_get (libraries paths) a ≡ Some l
    → field_of (start_heap paths) a name ≡ (if list_any (bytes_eq (l ++ 46 ∷ name)) paths then Builtin (l ++ 46 ∷ name) else Nil)
start_fields paths a l name e = table_of (λ k. library_fields k paths) (libraries paths) a l name e ∙ fields_declared l name paths

-- whatever a library's field reads as at the start is a builtin or nil
value_declared : (P : Value → Type 0) (l name : List ℕ) (paths : List (List ℕ)) → P Nil → ((path : List ℕ) → P (Builtin path)) → P (value_of name (library_fields l paths))
value_declared P l name paths none some =
    subst P (sym (fields_declared l name paths))
    (elim (list_any (bytes_eq (l ++ 46 ∷ name)) paths) as (λ b. P (if b then Builtin (l ++ 46 ∷ name) else Nil)) [ true ↦ some (l ++ 46 ∷ name) | false ↦ none ])

reads_of : (P : Value → Type 0) (fields : List ℕ → List Field) (libs : List (List ℕ)) (a : ℕ) (name : List ℕ) → P Nil → ((l : List ℕ) → P (value_of name (fields l)))
    → P (field_of (map (λ l. record { frozen = true; fields = fields l }) libs) a name)
reads_of P fields [] a name none some = none
reads_of P fields (l ∷ libs) zero name none some = some l
reads_of P fields (l ∷ libs) (suc a) name none some = reads_of P fields libs a name none some

pub start_reads : (P : Value → Type 0) (paths : List (List ℕ)) (a : ℕ) (name : List ℕ) → P Nil → ((path : List ℕ) → P (Builtin path)) → P (field_of (start_heap paths) a name)
start_reads P paths a name none some = reads_of P (λ l. library_fields l paths) (libraries paths) a name none (λ l. value_declared P l name paths none some)
