-- Reads of fields and elements: what they give, of which type that is, and what fails; and bases, which may be names of libraries.
use Rattle.std.proofs.Common.{◌≡◌, ℕ, Bool, true, false, not, ◌&&◌, ◌||◌, if◌then◌else◌, List, [], ◌∷◌, ◌++◌, Option, Some, None, is_some, refl, sym, ◌∙◌, ap, subst, codes}
use Rattle.luau_values.specs.Value.{Value, Nil, Truth, Num, Str, Tab, Lit, Builtin, Other, is_nil}
use Rattle.luau_values.specs.Heap.{Heap, field_of}
use Rattle.luau_values.specs.Stands.{Stands}
use Rattle.luau_tree.specs.Tree.{Expr, the_expr, ExprKind, NameExpr}
use Rattle.luau_run.specs.Program.{Program}
use Rattle.luau_run.specs.ReadModule.{Use, UseLocal, UseBuiltin, UseLibrary, UseGlobal, ReadModule}
use Rattle.luau_run.specs.ReadFolder.{may_mean, local_of}
use Rattle.luau_run.specs.Signature.{declaration}
use Rattle.luau_run.specs.SyntaxNode.{AnExpr, of_expr, of_expr_kind}
use Rattle.luau_run.specs.Machine.{Store, State, Gave, ◌>>=◌, give, fail, look}
use Rattle.luau_run.specs.Layer.{Frame, Layer, first}
use Rattle.luau_run.specs.Operators.{Base, field, string_field, named_field, other_element, element, anything, any_value}
use Rattle.luau_run.specs.Expressions.{value, base_of, is_library, stands_for_library}
use Rattle.type_arena.specs.Term.{Term, term, no_fields, more_fields, Members, only, all_but, never}
use Rattle.type_normal.specs.Holds.{holds}
use Rattle.type_normal.specs.Members.{is_no_set}
use Rattle.type_normal.specs.Kinds.{unknown, table_type, field_is}
use Rattle.type_normal.specs.Failing.{unindexable, index_fail}
use Rattle.type_normal.specs.Field.{field_type}
use Rattle.type_normal.proofs.Public.{unknown_all, kinds_hold, field_holds, field_is_holds, row_tables}
use Rattle.report_rules.specs.TypeMap.{TypeMap}
use Rattle.report_rules.specs.Forward.{typ, builtin_or, name_type, has_strings_or_other, property}
use Rattle.report_rules.specs.Seen.{seen_expr}
use Rattle.report_rules.specs.Context.{none}
use Rattle.report_rules.specs.Errors.{ev, unless_builtin, name_context}
use Rattle.run_frame.specs.Analysis.{Analysis}
use Rattle.run_frame.specs.Statements.{stats_of_expr}
use Rattle.run_frame.specs.Fit.{Fit}
use Rattle.run_frame.proofs.World.{World}
use Rattle.run_frame.proofs.Kept.{Doer}
use Rattle.run_frame.proofs.Fine.{Fine}
use Rattle.run_frame.proofs.Held.{Runs, Held}
use Rattle.run_frame.proofs.Parts.{Ends, Same, ends_then, ends_so, ends_give, ends_fail, gave_then, gave_same}
use Rattle.run_frame.proofs.Layers.{rules_of, seen_of, expr_of, Inside, Placed, Forward}
use Rattle.run_frame.proofs.Readings.{contains_head, reads_same, means}
use Rattle.run_frame.proofs.Names.{ends_any}
use Rattle.run_frame.proofs.Lists.{FirstOf}
use Rattle.run_frame.proofs.Blocks.{in_first}
use Rattle.run_frame.proofs.Operators.{OpGives, ends_anything}
use Rattle.run_frame.proofs.Forms.{value_gave, After, value_forward}

clash : {P : Type 0} (b : Bool) → b ≡ true → b ≡ false → P
clash b p q = cc

-- ---- a field of a value

-- of a table it is what stands there
abbrev pub IsFieldOf : Heap → List ℕ → Value → Value → Type 0
IsFieldOf heap name (Tab address) v = v ≡ field_of heap address name
IsFieldOf heap name base v = Unit {0}

-- a read that gave: what was read stands, and the base can be indexed
pub record Indexed (s : State) (base v : Value) (t : State) : Type 0 where
  pub same : Same s t
  pub stands : Stands s.store.heap v
  pub indexable : holds s.store.heap base index_fail ≡ false

abbrev pub FieldGives : State → List ℕ → Value → Value → State → Type 0
FieldGives s name base v t = Indexed s base v t × IsFieldOf s.store.heap name base v

string_field_stands : (program : Program) (name : List ℕ) (heap : Heap) → Stands heap (string_field program name)
string_field_stands program name heap = by_declared (is_some (declaration program.builtins (codes "string." ++ name)))
  where
    by_declared : (b : Bool) → Stands heap (if b then Builtin (codes "string." ++ name) else Nil)
    by_declared true = tt
    by_declared false = tt

field_ends : (an : Analysis) (who : Doer) (w : World) (s : State) (name : List ℕ) (base : Value) → Fine an w s → Ends an who w s (FieldGives s name base) (field an.program name base s)
unfolding ◌>>=◌ look fail
field_ends an who w s name (Tab a) f = ends_give an who w s (FieldGives s name (Tab a)) (field_of s.store.heap a name) f
    (record { same = (refl, refl); stands = f.fields a name; indexable = kinds_hold s.store.heap (Tab a) unindexable }, refl)
field_ends an who w s name (Str bytes) f = ends_give an who w s (FieldGives s name (Str bytes)) (string_field an.program name) f
    (record { same = (refl, refl); stands = string_field_stands an.program name s.store.heap; indexable = kinds_hold s.store.heap (Str bytes) unindexable }, tt)
field_ends an who w s name (Other number) f = ends_so an who w s (OpGives s false unknown) (FieldGives s name (Other number)) (anything an.program s)
    (λ v t z e g k p. (record { same = p.0; stands = p.1; indexable = kinds_hold s.store.heap (Other number) unindexable }, tt)) (ends_anything an who w s f unknown)
field_ends an who w s name Nil f = ends_fail an who w s s (FieldGives s name Nil) f (refl, refl)
field_ends an who w s name (Truth truth) f = ends_fail an who w s s (FieldGives s name (Truth truth)) f (refl, refl)
field_ends an who w s name (Num text) f = ends_fail an who w s s (FieldGives s name (Num text)) f (refl, refl)
field_ends an who w s name (Lit home function cells) f = ends_fail an who w s s (FieldGives s name (Lit home function cells)) f (refl, refl)
field_ends an who w s name (Builtin path) f = ends_fail an who w s s (FieldGives s name (Builtin path)) f (refl, refl)

-- off a base that isn't a library's name a name reads as the field
abbrev pub NamedGives : State → List ℕ → Base → Value → State → Type 0
NamedGives s name base v t = Indexed s base.value v t × (base.is_library ≡ false → IsFieldOf s.store.heap name base.value v)

pub named_field_ends : (an : Analysis) (who : Doer) (w : World) (s : State) (name : List ℕ) (base : Base) → Fine an w s → Ends an who w s (NamedGives s name base) (named_field an.program name base s)
unfolding ◌>>=◌
named_field_ends an who w s name base f = ends_then an who w s (FieldGives s name base.value) (NamedGives s name base) (field an.program name base.value s)
    (λ found. if base.is_library && is_nil found then any_value an.program else give found) (field_ends an who w s name base.value f)
    (λ found t z g k p. by_library base.is_library (is_nil found) refl found t z g p)
  where
    by_library : (b c : Bool) → base.is_library ≡ b → (found : Value) (t : State) (z : World) → Fine an z t → FieldGives s name base.value found t
        → Ends an who z t (NamedGives s name base) ((if b && c then any_value an.program else give found) t)
    by_library true true e found t z g p = ends_so an who z t (λ v u. Same t u × Stands t.store.heap v) (NamedGives s name base) (any_value an.program t)
        (λ v u y q d k n. (
          record {
            same = (n.0.0 ∙ p.0.same.0, n.0.1 ∙ p.0.same.1);
            stands = subst (λ (x : Store). Stands x.heap v) p.0.same.0 n.1;
            indexable = p.0.indexable;
          },
          λ no. clash base.is_library e no,
        )) (ends_any an who z t g)
    by_library true false e found t z g p = ends_give an who z t (NamedGives s name base) found g (p.0, λ no. p.1)
    by_library false c e found t z g p = ends_give an who z t (NamedGives s name base) found g (p.0, λ no. p.1)

-- ---- an element

other_ends : (an : Analysis) (who : Doer) (w : World) (s : State) (base : Value) → Fine an w s → Ends an who w s (Indexed s base) (other_element an.program base s)
unfolding fail
other_ends an who w s (Tab a) f = ends_so an who w s (λ v t. Same s t × Stands s.store.heap v) (Indexed s (Tab a)) (any_value an.program s)
    (λ v t z e g k p. record { same = p.0; stands = p.1; indexable = kinds_hold s.store.heap (Tab a) unindexable }) (ends_any an who w s f)
other_ends an who w s (Str bytes) f = ends_so an who w s (λ v t. Same s t × Stands s.store.heap v) (Indexed s (Str bytes)) (any_value an.program s)
    (λ v t z e g k p. record { same = p.0; stands = p.1; indexable = kinds_hold s.store.heap (Str bytes) unindexable }) (ends_any an who w s f)
other_ends an who w s (Other number) f = ends_so an who w s (OpGives s false unknown) (Indexed s (Other number)) (anything an.program s)
    (λ v t z e g k p. record { same = p.0; stands = p.1; indexable = kinds_hold s.store.heap (Other number) unindexable }) (ends_anything an who w s f unknown)
other_ends an who w s Nil f = ends_fail an who w s s (Indexed s Nil) f (refl, refl)
other_ends an who w s (Truth truth) f = ends_fail an who w s s (Indexed s (Truth truth)) f (refl, refl)
other_ends an who w s (Num text) f = ends_fail an who w s s (Indexed s (Num text)) f (refl, refl)
other_ends an who w s (Lit home function cells) f = ends_fail an who w s s (Indexed s (Lit home function cells)) f (refl, refl)
other_ends an who w s (Builtin path) f = ends_fail an who w s s (Indexed s (Builtin path)) f (refl, refl)

pub element_ends : (an : Analysis) (who : Doer) (w : World) (s : State) (key : Value) (base : Base) → Fine an w s → Ends an who w s (Indexed s base.value) (element an.program key base s)
element_ends an who w s (Str name) base f = ends_so an who w s (NamedGives s name base) (Indexed s base.value) (named_field an.program name base s) (λ v t z e g k p. p.0)
    (named_field_ends an who w s name base f)
element_ends an who w s Nil base f = other_ends an who w s base.value f
element_ends an who w s (Truth truth) base f = other_ends an who w s base.value f
element_ends an who w s (Num text) base f = other_ends an who w s base.value f
element_ends an who w s (Tab address) base f = other_ends an who w s base.value f
element_ends an who w s (Lit home function cells) base f = other_ends an who w s base.value f
element_ends an who w s (Builtin path) base f = other_ends an who w s base.value f
element_ends an who w s (Other number) base f = other_ends an who w s base.value f

-- ---- the type of a field

no_string : (h : Heap) (bytes : List ℕ) (type : Term) → has_strings_or_other type ≡ false → holds h (Str bytes) type ≡ true → ⊥
no_string h bytes (term free rows) e k = by_strings free.strings refl e k
  where
    by_strings : (m : Members (List ℕ)) → free.strings ≡ m → not (is_no_set m) || free.other ≡ false → holds h (Str bytes) (term (record free { strings = m }) rows) ≡ true → ⊥
    by_strings (only []) q n y = cc
    by_strings (only (x ∷ xs)) q n y = cc
    by_strings (all_but xs) q n y = cc

no_other : (h : Heap) (number : ℕ) (type : Term) → has_strings_or_other type ≡ false → holds h (Other number) type ≡ true → ⊥
no_other h number (term free rows) e k = by_other (not (is_no_set free.strings)) free.other e k
  where
    by_other : (a b : Bool) → a || b ≡ false → b ≡ true → ⊥
    by_other true b p q = cc
    by_other false true p q = cc
    by_other false false p q = cc

-- what was read off a base of a type is of the type of its field
pub property_typed : (h : Heap) (name : List ℕ) (base v : Value) (type : Term) → holds h base type ≡ true → holds h base index_fail ≡ false → IsFieldOf h name base v
    → holds h v (property name type) ≡ true
property_typed h name base v type e k is = by_test (has_strings_or_other type) refl
  where
    on_table : has_strings_or_other type ≡ false → (b : Value) → holds h b type ≡ true → holds h b index_fail ≡ false → IsFieldOf h name b v → holds h v (field_type name type) ≡ true
    on_table n (Tab a) p q i = subst (λ (x : Value). holds h x (field_type name type) ≡ true) (sym i) (field_holds h a name type p)
    on_table n (Str bytes) p q i = absurd (no_string h bytes type n p)
    on_table n (Other number) p q i = absurd (no_other h number type n p)
    on_table n Nil p q i = clash (holds h Nil index_fail) (kinds_hold h Nil unindexable) q
    on_table n (Truth truth) p q i = clash (holds h (Truth truth) index_fail) (kinds_hold h (Truth truth) unindexable) q
    on_table n (Num text) p q i = clash (holds h (Num text) index_fail) (kinds_hold h (Num text) unindexable) q
    on_table n (Lit home function cells) p q i = clash (holds h (Lit home function cells) index_fail) (kinds_hold h (Lit home function cells) unindexable) q
    on_table n (Builtin path) p q i = clash (holds h (Builtin path) index_fail) (kinds_hold h (Builtin path) unindexable) q

    by_test : (b : Bool) → has_strings_or_other type ≡ b → holds h v (if b then unknown else field_type name type) ≡ true
    by_test true n = unknown_all h v
    by_test false n = on_table n base e k is

-- a library's table has every field
pub library_property : (h : Heap) (name : List ℕ) (v : Value) → holds h v (property name table_type) ≡ true
library_property h name v = in_first h v unknown never (unknown_all h v)

-- a base whose field is in a set is a table with such a field
pub field_in : (h : Heap) (name : List ℕ) (base v : Value) (type : Term) → holds h base (field_is name type) ≡ true → IsFieldOf h name base v → holds h v type ≡ true
field_in h name base v type e is = by_table base e is (row_tables h base false (more_fields name type no_fields) e)
  where
    by_table : (b : Value) → holds h b (field_is name type) ≡ true → IsFieldOf h name b v → (a : ℕ) × (b ≡ Tab a) → holds h v type ≡ true
    by_table b p i (a, q) = on_table (subst (λ (x : Value). holds h x (field_is name type) ≡ true) q p) (subst (λ (x : Value). IsFieldOf h name x v) q i)
      where
        on_table : holds h (Tab a) (field_is name type) ≡ true → v ≡ field_of h a name → holds h v type ≡ true
        on_table y z = subst (λ (x : Value). holds h x type ≡ true) (sym z) (sym (field_is_holds h a name type) ∙ y)

-- ---- names of libraries

-- a base that is a library's name is a table, of which nothing else is known; and its context is empty
pub record LibraryFacts (an : Analysis) (frame : Frame) (map : TypeMap) (e : Expr) : Type 0 where
  pub typed : typ (rules_of an frame) map e ≡ table_type
  pub unasked : (type : Term) → ev (rules_of an frame) (seen_of an frame) e type ≡ none

by_use : (an : Analysis) (frame : Frame) (map : TypeMap) (id : ℕ) (span : _) (kind : ExprKind) → (rules_of an frame).reading.use_of id ≡ Some UseLibrary → may_mean an.program kind (Some UseLibrary) ≡ true
    → LibraryFacts an frame map (the_expr id span kind)
by_use an frame map id span (NameExpr name) used e = record {
  typed = ap (λ (u : Option Use). builtin_or u (name_type (rules_of an frame) map u)) used;
  unasked = λ type. ap (λ (u : Option Use). unless_builtin u (name_context (rules_of an frame) (local_of u) type)) used;
}
by_use an frame map id span _ used e = cc

pub library_facts : (an : Analysis) (w : World) (s : State) (frame : Frame) (map : TypeMap) (e : Expr) → Fit an → Runs an w s frame → Inside frame (of_expr e) (stats_of_expr e)
    → is_library frame e ≡ true → LibraryFacts an frame map e
library_facts an w s frame map (the_expr id span kind) fit r inside is = by_test (frame.reading.use_of id) refl is
  where
    by_test : (u : Option Use) → frame.reading.use_of id ≡ u → stands_for_library u ≡ true → LibraryFacts an frame map (the_expr id span kind)
    by_test (Some UseLibrary) q k = by_use an frame map id span kind (ap (λ (x : ReadModule). x.use_of id) (reads_same an w s frame fit r) ∙ q)
        (subst (λ (u : Option Use). may_mean an.program kind u ≡ true) q
        (means an w s frame id span kind fit r (inside.nodes (AnExpr (the_expr id span kind)) (contains_head (AnExpr (the_expr id span kind)) (of_expr_kind kind)))))
    by_test (Some (UseLocal x)) q k = cc
    by_test (Some (UseBuiltin path)) q k = cc
    by_test (Some UseGlobal) q k = cc
    by_test None q k = cc

-- ---- a base

-- what is known of a base that was evaluated
abbrev pub BaseGives : Analysis → Frame → TypeMap → Expr → Base → State → Type 0
BaseGives an frame map e base t = FirstOf (After an frame map e) base.value t × (base.is_library ≡ is_library frame e)

pub base_forward : (an : Analysis) (l : Layer) → Forward an l → (w : World) (s : State) (frame : Frame) (map : TypeMap) (e : Expr) → Fine an w s → Runs an w s frame → Held an frame map s
    → Inside frame (of_expr e) (stats_of_expr e) → Placed an frame (seen_expr (rules_of an frame) map e)
    → Ends an (expr_of an frame e) w s (BaseGives an frame map e) (base_of l frame e s)
unfolding ◌>>=◌
base_forward an l fwd w s frame map e f r h inside placed = ends_then an (expr_of an frame e) w s (FirstOf (After an frame map e)) (BaseGives an frame map e) (value l frame e s)
    (λ v. give (record { value = v; is_library = is_library frame e })) (value_forward an l fwd w s frame map e f r h inside placed)
    (λ v t z g k p. ends_give an (expr_of an frame e) z t (BaseGives an frame map e) (record { value = v; is_library = is_library frame e }) g (p, refl))

-- a base that gave
pub base_gave : (l : Layer) (frame : Frame) (e : Expr) (s : State) (base : Base) (t : State) → base_of l frame e s ≡ Gave base t
    → (vs : List Value) × (l.values frame e s ≡ Gave vs t) × (base.value ≡ first vs) × (base.is_library ≡ is_library frame e)
unfolding ◌>>=◌ give
base_gave l frame e s base t q = by_parts (gave_then (value l frame e s) (λ v. give (record { value = v; is_library = is_library frame e })) base t q)
  where
    by_parts : (v : Value) × (u : State) × (value l frame e s ≡ Gave v u) × (give (record { value = v; is_library = is_library frame e }) u ≡ Gave base t)
        → (vs : List Value) × (l.values frame e s ≡ Gave vs t) × (base.value ≡ first vs) × (base.is_library ≡ is_library frame e)
    by_parts (v, u, k, n) = by_value (value_gave l frame e s v u k) (gave_same (record { value = v; is_library = is_library frame e }) base u t n)
      where
        by_value : (vs : List Value) × (l.values frame e s ≡ Gave vs u) × (v ≡ first vs) → (record { value = v; is_library = is_library frame e } ≡ base) × (u ≡ t)
            → (vs : List Value) × (l.values frame e s ≡ Gave vs t) × (base.value ≡ first vs) × (base.is_library ≡ is_library frame e)
        by_value (vs, i, j) (same, end) = (
          vs,
          subst (λ (x : State). l.values frame e s ≡ Gave vs x) end i,
          ap (λ (b : Base). b.value) (sym same) ∙ j,
          ap (λ (b : Base). b.is_library) (sym same),
        )
