-- Constructors of tables, forward: what their fields are, and their type.
use Rattle.std.proofs.Common.{◌≡◌, ◌≢◌, ℕ, Bool, true, false, ◌&&◌, ◌||◌, if◌then◌else◌, List, [], ◌∷◌, ◌++◌, Option, refl, sym, ◌∙◌, ap, subst, arith}
use Rattle.std.specs.Str.{bytes_eq}
use Rattle.std.specs.declared.cmp.Ordering.{Ordering}
use Rattle.std.specs.declared.cmp.Ordering.TheVariants.{Less, Equal, Greater}
use Rattle.std.proofs.lemmas.Slice.Eq.{bytes_eq-Decides}
use Rattle.luau_values.specs.Value.{Value, Nil, Truth, Num, Str, Tab, Lit, Builtin, Other}
use Rattle.luau_values.specs.Heap.{Heap, value_of, with_table}
use Rattle.luau_values.specs.Heap as heaps
use Rattle.luau_values.specs.Later.{Later}
use Rattle.luau_values.specs.Grows.{Grows}
use Rattle.luau_values.specs.Start.{name_cmp}
use Rattle.luau_values.specs.Stands.{Stands, FieldsStand}
use Rattle.luau_values.proofs.Public.{write_reads, write_leaves, stands_later}
use Rattle.luau_tree.specs.Tree.{Expr, the_expr, StrExpr, NumberExpr, Item, Field, Keyed, Plain, Items, no_items, more_items}
use Rattle.luau_run.specs.ReadModule.{Use}
use Rattle.luau_run.specs.SyntaxNode.{of_expr, of_items}
use Rattle.luau_run.specs.Machine.{Store, State, Ran, Gave, Failed, Spent, Part, go_on, ◌>>=◌, give, ask}
use Rattle.luau_run.specs.Answers.{yes_or_fail}
use Rattle.luau_run.specs.Layer.{Frame, Layer, first}
use Rattle.luau_run.specs.Expressions.{value, keyed_field, item_fields}
use Rattle.type_arena.specs.Term.{Term, Fields, no_fields, more_fields}
use Rattle.type_normal.specs.Members.{by_order}
use Rattle.type_normal.specs.Holds.{holds}
use Rattle.type_normal.specs.HeapFree.{has_field}
use Rattle.type_normal.specs.Operations.{put_field}
use Rattle.type_normal.specs.Field.{all_typed}
use Rattle.type_normal.specs.Kinds.{number_type, text_type}
use Rattle.type_normal.proofs.Public.{text_holds, grown_holds}
use Rattle.type_normal.proofs.OrderFacts.{name_ties}
use Rattle.report_rules.specs.Rules.{Rules}
use Rattle.report_rules.specs.Effects.{effects, effects_of_item, effects_of_items}
use Rattle.report_rules.specs.TypeMap.{TypeMap}
use Rattle.report_rules.specs.Forward.{typ, builtin_or, held, after, after_part, has_other_key, with_earlier, fields_of_items}
use Rattle.report_rules.specs.Seen.{seen_expr, seen_items}
use Rattle.run_frame.specs.Analysis.{Analysis}
use Rattle.run_frame.specs.Statements.{stats_of_expr, stats_of_items}
use Rattle.run_frame.specs.Fit.{Fit}
use Rattle.run_frame.proofs.World.{World}
use Rattle.run_frame.proofs.Kept.{Doer, Kept}
use Rattle.run_frame.proofs.Fine.{Fine}
use Rattle.run_frame.proofs.Held.{Runs, runs_kept, Held}
use Rattle.run_frame.proofs.Parts.{Ends, Same, Says, ends_then, ends_so, ends_more, ends_give, ends_ask}
use Rattle.run_frame.proofs.Layers.{rules_of, seen_of, part_of, expr_of, Inside, Placed, Gives, Forward}
use Rattle.run_frame.proofs.Readings.{sub_left, sub_right}
use Rattle.run_frame.proofs.Passing.{held_after}
use Rattle.run_frame.proofs.Lists.{may_first, may_second, first_false, second_false, held_typed, inside_left, inside_right, FirstOf}
use Rattle.run_frame.proofs.Blocks.{or_left, or_right}
use Rattle.run_frame.proofs.Forms.{IsForm, form_read, After, value_forward, first_stands}

-- ---- fields

clash : {P : Type 0} (b : Bool) → b ≡ true → b ≡ false → P
clash b p q = cc

same_bytes : (name : List ℕ) → bytes_eq name name ≡ true
same_bytes name = (bytes_eq-Decides name name).1 refl

-- what fields read as after one more was written
written_here : (name : List ℕ) (v : Value) (fields : List heaps.Field) → value_of name (heaps.written name v fields) ≡ v
written_here name v fields = write_reads (record { frozen = false; fields = fields } ∷ []) 0 name v (omega arith)

written_aside : (name other : List ℕ) (v : Value) (fields : List heaps.Field) → name ≢ other → value_of other (heaps.written name v fields) ≡ value_of other fields
written_aside name other v fields n = write_leaves (record { frozen = false; fields = fields } ∷ []) 0 0 name other v n

-- what they hold stands
abbrev pub HoldStanding : Heap → List heaps.Field → Type 0
HoldStanding heap fields = (name : List ℕ) → Stands heap (value_of name fields)

written_stands : (heap : Heap) (name : List ℕ) (v : Value) (fields : List heaps.Field) → Stands heap v → HoldStanding heap fields → HoldStanding heap (heaps.written name v fields)
written_stands heap name v fields there h other = by_name (bytes_eq name other) refl
  where
    by_name : (b : Bool) → bytes_eq name other ≡ b → Stands heap (value_of other (heaps.written name v fields))
    by_name true e = subst (λ (n : List ℕ). Stands heap (value_of n (heaps.written name v fields))) ((bytes_eq-Decides name other).0 e)
        (subst (λ (x : Value). Stands heap x) (sym (written_here name v fields)) there)
    by_name false e = subst (λ (x : Value). Stands heap x)
        (sym (written_aside name other v fields (λ same. clash (bytes_eq name other) ((bytes_eq-Decides name other).1 same) e))) (h other)

standing_later : (h g : Heap) (fields : List heaps.Field) → Later h g → HoldStanding h fields → HoldStanding g fields
standing_later h g fields later there name = stands_later h g (value_of name fields) later (there name)

-- ---- types of fields

-- one more field, of which nothing is said yet or something else
put_typed : (h : Heap) (fields : List heaps.Field) (name : List ℕ) (type : Term) (types : Fields) → holds h (value_of name fields) type ≡ true → all_typed h fields types ≡ true
    → all_typed h fields (put_field name type (λ later. later) types) ≡ true
put_typed h fields name type no_fields e k = alone (holds h (value_of name fields) type) e
  where
    alone : (a : Bool) → a ≡ true → a && true ≡ true
    alone true p = refl
    alone false p = cc
put_typed h fields name type (more_fields next next_type types) e k = by_cmp (name_cmp name next) (put_typed h fields name type types e (second_so (holds h (value_of next fields) next_type) (all_typed h fields types) k))
  where
    second_so : (a b : Bool) → a && b ≡ true → b ≡ true
    second_so true b q = q
    second_so false b q = cc

    first_so : (a b : Bool) → a && b ≡ true → a ≡ true
    first_so true b q = refl
    first_so false b q = cc

    both : (a b : Bool) → a ≡ true → b ≡ true → a && b ≡ true
    both true b p q = q
    both false b p q = cc

    by_cmp : (o : Ordering) → all_typed h fields (put_field name type (λ later. later) types) ≡ true
        → all_typed h fields (by_order o (more_fields name type (more_fields next next_type types)) (more_fields next next_type types)
        (more_fields next next_type (put_field name type (λ later. later) types))) ≡ true
    by_cmp Less again = both (holds h (value_of name fields) type) (all_typed h fields (more_fields next next_type types)) e k
    by_cmp Equal again = k
    by_cmp Greater again = both (holds h (value_of next fields) next_type) (all_typed h fields (put_field name type (λ later. later) types))
        (first_so (holds h (value_of next fields) next_type) (all_typed h fields types) k) again

put_has : (name : List ℕ) (type : Term) (types : Fields) → has_field name (put_field name type (λ later. later) types) ≡ true
put_has name type no_fields = or_left (bytes_eq name name) false (same_bytes name)
put_has name type (more_fields next next_type types) = by_cmp (name_cmp name next) refl (put_has name type types)
  where
    by_cmp : (o : Ordering) → name_cmp name next ≡ o → has_field name (put_field name type (λ later. later) types) ≡ true
        → has_field name (by_order o (more_fields name type (more_fields next next_type types)) (more_fields next next_type types)
        (more_fields next next_type (put_field name type (λ later. later) types))) ≡ true
    by_cmp Less e again = or_left (bytes_eq name name) (has_field name (more_fields next next_type types)) (same_bytes name)
    by_cmp Equal e again = or_left (bytes_eq next name) (has_field name types) (subst (λ (n : List ℕ). bytes_eq n name ≡ true) (name_ties name next e) (same_bytes name))
    by_cmp Greater e again = or_right (bytes_eq next name) (has_field name (put_field name type (λ later. later) types)) again

put_keeps : (name other : List ℕ) (type : Term) (types : Fields) → has_field other types ≡ true → has_field other (put_field name type (λ later. later) types) ≡ true
put_keeps name other type no_fields e = cc
put_keeps name other type (more_fields next next_type types) e = by_cmp (name_cmp name next) (λ k. put_keeps name other type types k)
  where
    by_either : (a b c : Bool) → a || b ≡ true → (b ≡ true → c ≡ true) → a || c ≡ true
    by_either true b c p q = refl
    by_either false b c p q = q p

    by_cmp : (o : Ordering) → (has_field other types ≡ true → has_field other (put_field name type (λ later. later) types) ≡ true)
        → has_field other (by_order o (more_fields name type (more_fields next next_type types)) (more_fields next next_type types)
        (more_fields next next_type (put_field name type (λ later. later) types))) ≡ true
    by_cmp Less again = or_right (bytes_eq name other) (has_field other (more_fields next next_type types)) e
    by_cmp Equal again = e
    by_cmp Greater again = by_either (bytes_eq next other) (has_field other types) (has_field other (put_field name type (λ later. later) types)) e again

earlier_has : (name : List ℕ) (type : Term) (types : Fields) → has_field name (with_earlier name type types) ≡ true
earlier_has name type types = by_test (has_field name types) refl
  where
    by_test : (b : Bool) → has_field name types ≡ b → has_field name (if b then types else put_field name type (λ later. later) types) ≡ true
    by_test true e = e
    by_test false e = put_has name type types

earlier_keeps : (name other : List ℕ) (type : Term) (types : Fields) → has_field other types ≡ true → has_field other (with_earlier name type types) ≡ true
earlier_keeps name other type types e = by_test (has_field name types)
  where
    by_test : (b : Bool) → has_field other (if b then types else put_field name type (λ later. later) types) ≡ true
    by_test true = e
    by_test false = put_keeps name other type types e

earlier_typed : (h : Heap) (fields : List heaps.Field) (name : List ℕ) (type : Term) (types : Fields) → (has_field name types ≡ false → holds h (value_of name fields) type ≡ true)
    → all_typed h fields types ≡ true → all_typed h fields (with_earlier name type types) ≡ true
earlier_typed h fields name type types e k = by_test (has_field name types) refl
  where
    by_test : (b : Bool) → has_field name types ≡ b → all_typed h fields (if b then types else put_field name type (λ later. later) types) ≡ true
    by_test true n = k
    by_test false n = put_typed h fields name type types (e n) k

pub typed_grown : (h g : Heap) (fields : List heaps.Field) (types : Fields) → FieldsStand h → Grows h g → HoldStanding h fields → all_typed h fields types ≡ true → all_typed g fields types ≡ true
typed_grown h g fields no_fields stand grows there e = e
typed_grown h g fields (more_fields name type types) stand grows there e = by_parts (holds h (value_of name fields) type) (all_typed h fields types) refl refl e
    (typed_grown h g fields types stand grows there)
  where
    both : (a b : Bool) → a ≡ true → b ≡ true → a && b ≡ true
    both true b p q = q
    both false b p q = cc

    by_parts : (a b : Bool) → holds h (value_of name fields) type ≡ a → all_typed h fields types ≡ b → a && b ≡ true → (all_typed h fields types ≡ true → all_typed g fields types ≡ true)
        → holds g (value_of name fields) type && all_typed g fields types ≡ true
    by_parts true true p q k again = both (holds g (value_of name fields) type) (all_typed g fields types) (grown_holds h g (value_of name fields) type stand (there name) grows p) (again q)
    by_parts true false p q k again = cc
    by_parts false b p q k again = cc

-- ---- which names items write

-- a key that is written as a string is a name
abbrev key_writes : List ℕ → Expr → Bool
key_writes name (the_expr id span (StrExpr bytes)) = bytes_eq bytes name
key_writes name _ = false

abbrev item_writes : List ℕ → Item → Bool
item_writes name (Field other e) = bytes_eq other name
item_writes name (Keyed key e) = key_writes name key
item_writes name (Plain e) = false

abbrev items_write : List ℕ → Items → Bool
items_write name no_items = false
items_write name (more_items item rest) = item_writes name item || items_write name rest

-- a name that is written is among the fields of the type
has_written : (rules : Rules) (map : TypeMap) (items : Items) (name : List ℕ) → items_write name items ≡ true → has_field name (fields_of_items rules map items) ≡ true
has_written rules map no_items name e = cc
has_written rules map (more_items (Field other x) rest) name e = by_name (bytes_eq other name) refl e
    (has_written rules (after_part (effects_of_item rules (Field other x)) map) rest name)
  where
    by_name : (b : Bool) → bytes_eq other name ≡ b → b || items_write name rest ≡ true
        → (items_write name rest ≡ true → has_field name (fields_of_items rules (after_part (effects_of_item rules (Field other x)) map) rest) ≡ true)
        → has_field name (fields_of_items rules map (more_items (Field other x) rest)) ≡ true
    by_name true k n again = subst (λ (m : List ℕ). has_field m (fields_of_items rules map (more_items (Field other x) rest)) ≡ true) ((bytes_eq-Decides other name).0 k)
        (earlier_has other _ (fields_of_items rules (after_part (effects_of_item rules (Field other x)) map) rest))
    by_name false k n again = earlier_keeps other name _ (fields_of_items rules (after_part (effects_of_item rules (Field other x)) map) rest) (again n)
has_written rules map (more_items (Keyed (the_expr id span (StrExpr bytes)) x) rest) name e = by_name (bytes_eq bytes name) refl e
    (has_written rules (after_part (effects_of_item rules (Keyed (the_expr id span (StrExpr bytes)) x)) map) rest name)
  where
    by_name : (b : Bool) → bytes_eq bytes name ≡ b → b || items_write name rest ≡ true
        → (items_write name rest ≡ true → has_field name (fields_of_items rules (after_part (effects_of_item rules (Keyed (the_expr id span (StrExpr bytes)) x)) map) rest) ≡ true)
        → has_field name (fields_of_items rules map (more_items (Keyed (the_expr id span (StrExpr bytes)) x) rest)) ≡ true
    by_name true k n again = subst (λ (m : List ℕ). has_field m (fields_of_items rules map (more_items (Keyed (the_expr id span (StrExpr bytes)) x) rest)) ≡ true) ((bytes_eq-Decides bytes name).0 k)
        (earlier_has bytes _ (fields_of_items rules (after_part (effects_of_item rules (Keyed (the_expr id span (StrExpr bytes)) x)) map) rest))
    by_name false k n again = earlier_keeps bytes name _ (fields_of_items rules (after_part (effects_of_item rules (Keyed (the_expr id span (StrExpr bytes)) x)) map) rest) (again n)
has_written rules map (more_items (Keyed (the_expr id span kind) x) rest) name e =
    has_written rules (after_part (effects_of_item rules (Keyed (the_expr id span kind) x)) map) rest name e
has_written rules map (more_items (Plain x) rest) name e = has_written rules (after_part (effects_of_item rules (Plain x)) map) rest name e

not_written : (rules : Rules) (map : TypeMap) (items : Items) (name : List ℕ) → has_field name (fields_of_items rules map items) ≡ false → items_write name items ≡ false
not_written rules map items name e = by_test (items_write name items) refl
  where
    by_test : (b : Bool) → items_write name items ≡ b → items_write name items ≡ false
    by_test true k = clash (has_field name (fields_of_items rules map items)) (has_written rules map items name k) e
    by_test false k = k

-- ---- a field by a key

-- the fields after an item with a key: a string is a name
abbrev pub IsKeyed : Value → Value → List heaps.Field → List heaps.Field → Type 0
IsKeyed (Str name) v fields more = more ≡ heaps.written name v fields
IsKeyed _ v fields more = more ≡ fields

-- what is known of a key that is written as a string or as a number
abbrev pub KeyIs : Expr → Value → Type 0
KeyIs (the_expr id span (StrExpr bytes)) k = k ≡ Str bytes
KeyIs (the_expr id span (NumberExpr text)) k = (digits : List ℕ) × (k ≡ Num digits)
KeyIs _ k = Unit {0}

number_is : (h : Heap) (v : Value) → holds h v number_type ≡ true → (digits : List ℕ) × (v ≡ Num digits)
number_is h Nil e = cc
number_is h (Truth true) e = cc
number_is h (Truth false) e = cc
number_is h (Num digits) e = (digits, refl)
number_is h (Str bytes) e = cc
number_is h (Tab address) e = cc
number_is h (Lit home function cells) e = cc
number_is h (Builtin path) e = cc
number_is h (Other number) e = cc

text_form : (bytes : List ℕ) → IsForm (StrExpr bytes)
text_form bytes = record { nameless = refl; pathless = refl; no_local = λ rules id span. refl }

number_form : (text : List ℕ) → IsForm (NumberExpr text)
number_form text = record { nameless = refl; pathless = refl; no_local = λ rules id span. refl }

pub key_is : (an : Analysis) (w : World) (s : State) (frame : Frame) (map : TypeMap) (key : Expr) (vs : List Value) (t : State) → Fit an → Runs an w s frame
    → Inside frame (of_expr key) (stats_of_expr key) → Gives an frame map key vs t → KeyIs key (first vs)
key_is an w s frame map (the_expr id span (StrExpr bytes)) vs t fit r inside g = text_holds t.store.heap (first vs) bytes
    (subst (λ (u : Option Use). holds t.store.heap (first vs) (builtin_or u (text_type bytes)) ≡ true) (form_read an w s frame id span (StrExpr bytes) fit (text_form bytes) r inside) g.typed)
key_is an w s frame map (the_expr id span (NumberExpr text)) vs t fit r inside g = number_is t.store.heap (first vs)
    (subst (λ (u : Option Use). holds t.store.heap (first vs) (builtin_or u number_type) ≡ true) (form_read an w s frame id span (NumberExpr text) fit (number_form text) r inside) g.typed)
key_is an w s frame map (the_expr id span _) vs t fit r inside g = tt

pub keyed_ends : (an : Analysis) (who : Doer) (w : World) (s : State) (k v : Value) (fields : List heaps.Field) → Fine an w s
    → Ends an who w s (λ more t. Same s t × IsKeyed k v fields more) (keyed_field k v fields s)
unfolding ◌>>=◌
keyed_ends an who w s (Str name) v fields f = ends_give an who w s (λ more t. Same s t × IsKeyed (Str name) v fields more) (heaps.written name v fields) f ((refl, refl), refl)
keyed_ends an who w s Nil v fields f = ends_then an who w s (λ x t. Same s t × Says yes_or_fail x) (λ more t. Same s t × (more ≡ fields)) (ask yes_or_fail s) (λ x. give fields)
    (ends_ask an who w s yes_or_fail f) (λ x t z g j p. ends_give an who z t (λ more u. Same s u × (more ≡ fields)) fields g (p.0, refl))
keyed_ends an who w s (Truth truth) v fields f = ends_then an who w s (λ x t. Same s t × Says yes_or_fail x) (λ more t. Same s t × (more ≡ fields)) (ask yes_or_fail s) (λ x. give fields)
    (ends_ask an who w s yes_or_fail f) (λ x t z g j p. ends_give an who z t (λ more u. Same s u × (more ≡ fields)) fields g (p.0, refl))
keyed_ends an who w s (Num text) v fields f = ends_then an who w s (λ x t. Same s t × Says yes_or_fail x) (λ more t. Same s t × (more ≡ fields)) (ask yes_or_fail s) (λ x. give fields)
    (ends_ask an who w s yes_or_fail f) (λ x t z g j p. ends_give an who z t (λ more u. Same s u × (more ≡ fields)) fields g (p.0, refl))
keyed_ends an who w s (Tab address) v fields f = ends_then an who w s (λ x t. Same s t × Says yes_or_fail x) (λ more t. Same s t × (more ≡ fields)) (ask yes_or_fail s) (λ x. give fields)
    (ends_ask an who w s yes_or_fail f) (λ x t z g j p. ends_give an who z t (λ more u. Same s u × (more ≡ fields)) fields g (p.0, refl))
keyed_ends an who w s (Lit home function cells) v fields f = ends_then an who w s (λ x t. Same s t × Says yes_or_fail x) (λ more t. Same s t × (more ≡ fields)) (ask yes_or_fail s) (λ x. give fields)
    (ends_ask an who w s yes_or_fail f) (λ x t z g j p. ends_give an who z t (λ more u. Same s u × (more ≡ fields)) fields g (p.0, refl))
keyed_ends an who w s (Builtin path) v fields f = ends_then an who w s (λ x t. Same s t × Says yes_or_fail x) (λ more t. Same s t × (more ≡ fields)) (ask yes_or_fail s) (λ x. give fields)
    (ends_ask an who w s yes_or_fail f) (λ x t z g j p. ends_give an who z t (λ more u. Same s u × (more ≡ fields)) fields g (p.0, refl))
keyed_ends an who w s (Other number) v fields f = ends_then an who w s (λ x t. Same s t × Says yes_or_fail x) (λ more t. Same s t × (more ≡ fields)) (ask yes_or_fail s) (λ x. give fields)
    (ends_ask an who w s yes_or_fail f) (λ x t z g j p. ends_give an who z t (λ more u. Same s u × (more ≡ fields)) fields g (p.0, refl))

keyed_stands : (heap : Heap) (k v : Value) (fields more : List heaps.Field) → IsKeyed k v fields more → Stands heap v → HoldStanding heap fields → HoldStanding heap more
keyed_stands heap (Str name) v fields more e there h = subst (λ (fs : List heaps.Field). HoldStanding heap fs) (sym e) (written_stands heap name v fields there h)
keyed_stands heap Nil v fields more e there h = subst (λ (fs : List heaps.Field). HoldStanding heap fs) (sym e) h
keyed_stands heap (Truth truth) v fields more e there h = subst (λ (fs : List heaps.Field). HoldStanding heap fs) (sym e) h
keyed_stands heap (Num text) v fields more e there h = subst (λ (fs : List heaps.Field). HoldStanding heap fs) (sym e) h
keyed_stands heap (Tab address) v fields more e there h = subst (λ (fs : List heaps.Field). HoldStanding heap fs) (sym e) h
keyed_stands heap (Lit home function cells) v fields more e there h = subst (λ (fs : List heaps.Field). HoldStanding heap fs) (sym e) h
keyed_stands heap (Builtin path) v fields more e there h = subst (λ (fs : List heaps.Field). HoldStanding heap fs) (sym e) h
keyed_stands heap (Other number) v fields more e there h = subst (λ (fs : List heaps.Field). HoldStanding heap fs) (sym e) h

-- ---- items

-- the fields that items give stand, are of the types that the rules say, and what isn't written is as it was
pub record ItemsGive (an : Analysis) (frame : Frame) (map : TypeMap) (items : Items) (fields out : List heaps.Field) (t : State) : Type 0 where
  pub stand : HoldStanding t.store.heap out
  pub typed : has_other_key items ≡ false → all_typed t.store.heap out (fields_of_items (rules_of an frame) map items) ≡ true
  pub spared : has_other_key items ≡ false → (name : List ℕ) → items_write name items ≡ false → value_of name out ≡ value_of name fields

-- an item that writes a name
name_gives : (an : Analysis) (y z : World) (t u : State) (frame : Frame) (map at_value at_rest : TypeMap) (item : Item) (rest : Items) (name : List ℕ) (type : Term) (v : Value) (fields more out : List heaps.Field)
    → more ≡ heaps.written name v fields → (has_other_key (more_items item rest) ≡ false → has_other_key rest ≡ false)
    → ((other : List ℕ) → item_writes other item ≡ bytes_eq name other)
    → fields_of_items (rules_of an frame) map (more_items item rest) ≡ with_earlier name (held (effects_of_items (rules_of an frame) rest) type) (fields_of_items (rules_of an frame) at_rest rest)
    → Fine an z t → Kept an (part_of frame (effects_of_items (rules_of an frame) rest)) z t y u → Stands t.store.heap v → holds t.store.heap v type ≡ true
    → ItemsGive an frame at_rest rest more out u → ItemsGive an frame map (more_items item rest) fields out u
name_gives an y z t u frame map at_value at_rest item rest name type v fields more out is others writes types g k there typed i = record {
  stand = i.stand;
  typed = λ e. subst (λ (fs : Fields). all_typed u.store.heap out fs ≡ true) (sym types)
      (earlier_typed u.store.heap out name (held (effects_of_items (rules_of an frame) rest) type) (fields_of_items (rules_of an frame) at_rest rest)
      (λ n. subst (λ (x : Value). holds u.store.heap x (held (effects_of_items (rules_of an frame) rest) type) ≡ true)
      (sym (i.spared (others e) name (not_written (rules_of an frame) at_rest rest name n) ∙ (ap (value_of name) is ∙ written_here name v fields)))
      (held_typed an z y t u frame (effects_of_items (rules_of an frame) rest) v type g k there typed)) (i.typed (others e)));
  spared = λ e other n. i.spared (others e) other (second_false (item_writes other item) (items_write other rest) n)
      ∙ (ap (value_of other) is ∙ written_aside name other v fields
      (λ same. clash (bytes_eq name other) ((bytes_eq-Decides name other).1 same) (sym (writes other) ∙ first_false (item_writes other item) (items_write other rest) n)));
}

-- an item that writes none
other_gives : (an : Analysis) (u : State) (frame : Frame) (map at_rest : TypeMap) (item : Item) (rest : Items) (fields more out : List heaps.Field)
    → more ≡ fields → (has_other_key (more_items item rest) ≡ false → has_other_key rest ≡ false)
    → fields_of_items (rules_of an frame) map (more_items item rest) ≡ fields_of_items (rules_of an frame) at_rest rest
    → ItemsGive an frame at_rest rest more out u → ItemsGive an frame map (more_items item rest) fields out u
other_gives an u frame map at_rest item rest fields more out is others types i = record {
  stand = i.stand;
  typed = λ e. subst (λ (fs : Fields). all_typed u.store.heap out fs ≡ true) (sym types) (i.typed (others e));
  spared = λ e other n. i.spared (others e) other (second_false (item_writes other item) (items_write other rest) n) ∙ ap (value_of other) is;
}

go_after : {A B C : Type 0} (r : Ran A) (f : A → Part B) (h : B → Part C) → go_on r (λ a t. go_on (f a t) h) ≡ go_on (go_on r f) h
go_after (Gave a t) f h = refl
go_after (Failed t) f h = refl
go_after (Spent t) f h = refl

go_after_two : {A B C D : Type 0} (r : Ran A) (f : A → Part B) (g : A → B → Part C) (h : C → Part D)
    → go_on r (λ a t. go_on (f a t) (λ b u. go_on (g a b u) h)) ≡ go_on (go_on r (λ a t. go_on (f a t) (g a))) h
go_after_two (Gave a t) f g h = go_after (f a t) (g a) h
go_after_two (Failed t) f g h = refl
go_after_two (Spent t) f g h = refl

-- what is known after an item with a key, before the rest
record KeyedGives (an : Analysis) (frame : Frame) (map : TypeMap) (key e : Expr) (fields more : List heaps.Field) (t : State) : Type 0 where
  k : Value
  v : Value
  keyed : IsKeyed k v fields more
  key_known : KeyIs key k
  held_there : Held an frame (after_part (effects (rules_of an frame) key || effects (rules_of an frame) e) map) t
  stand : HoldStanding t.store.heap more
  there : Stands t.store.heap v
  typed : holds t.store.heap v (typ (rules_of an frame) (after (rules_of an frame) map key) e) ≡ true

module _ (an : Analysis) (l : Layer) (fit : Fit an) (fwd : Forward an l) (frame : Frame) where
  keyed_forward : (w : World) (s : State) (map : TypeMap) (key e : Expr) (fields : List heaps.Field) → Fine an w s → Runs an w s frame → Held an frame map s
      → Inside frame (of_expr key ++ of_expr e) (stats_of_expr key ++ stats_of_expr e) → Placed an frame (seen_expr (rules_of an frame) map key ++ seen_expr (rules_of an frame) (after (rules_of an frame) map key) e)
      → HoldStanding s.store.heap fields
      → Ends an (part_of frame (effects (rules_of an frame) key || effects (rules_of an frame) e)) w s (KeyedGives an frame map key e fields)
      (go_on (value l frame key s) (λ k t. go_on (value l frame e t) (λ v. keyed_field k v fields)))
  keyed_forward w s map key e fields f r h inside placed stand =
      ends_so an (part_of frame (effects (rules_of an frame) key || effects (rules_of an frame) e)) w s Inner (KeyedGives an frame map key e fields)
      (go_on (value l frame key s) (λ k t. go_on (value l frame e t) (λ v. keyed_field k v fields)))
      (λ more t z q g k i. record {
        k = i.0;
        v = i.1;
        keyed = i.2;
        key_known = i.3;
        held_there = held_after an w z s t frame map (effects (rules_of an frame) key || effects (rules_of an frame) e) f r k h;
        stand = i.4;
        there = i.5;
        typed = i.6;
      })
      (ends_then an who w s (FirstOf (After an frame map key)) Inner (value l frame key s) (λ k t. go_on (value l frame e t) (λ v. keyed_field k v fields))
      (ends_more an (expr_of an frame key) who w s (FirstOf (After an frame map key)) (value l frame key s) (may_first frame (effects (rules_of an frame) key) (effects (rules_of an frame) e))
      (value_forward an l fwd w s frame map key f r h (inside_left frame (of_expr key) (of_expr e) (stats_of_expr key) (stats_of_expr e) inside)
      (sub_left (seen_expr (rules_of an frame) map key) (seen_expr (rules_of an frame) (after (rules_of an frame) map key) e) (seen_of an frame) placed)))
      (λ k t z g j p. ends_then an who z t (FirstOf (After an frame (after (rules_of an frame) map key) e)) Inner (value l frame e t) (λ v. keyed_field k v fields)
      (ends_more an (expr_of an frame e) who z t (FirstOf (After an frame (after (rules_of an frame) map key) e)) (value l frame e t)
      (may_second frame (effects (rules_of an frame) key) (effects (rules_of an frame) e))
      (value_forward an l fwd z t frame (after (rules_of an frame) map key) e g (runs_kept an who w z s t frame j r) p.2.1
      (inside_right frame (of_expr key) (of_expr e) (stats_of_expr key) (stats_of_expr e) inside)
      (sub_right (seen_expr (rules_of an frame) map key) (seen_expr (rules_of an frame) (after (rules_of an frame) map key) e) (seen_of an frame) placed)))
      (λ v u y d i q. ends_so an who y u (λ more x. Same u x × IsKeyed k v fields more) Inner (keyed_field k v fields u)
      (λ more x o c n b m. (
        k,
        v,
        m.1,
        subst (λ (a : Value). KeyIs key a) (sym p.1) (key_is an w s frame map key p.0 t fit r (inside_left frame (of_expr key) (of_expr e) (stats_of_expr key) (stats_of_expr e) inside) p.2.0),
        keyed_stands x.store.heap k v fields more m.1 (stands_v v u x q m.0)
            (standing_later u.store.heap x.store.heap fields b.heap (standing_later t.store.heap u.store.heap fields i.heap (standing_later s.store.heap t.store.heap fields j.heap stand))),
        stands_v v u x q m.0,
        subst (λ (a : Store). holds a.heap v (typ (rules_of an frame) (after (rules_of an frame) map key) e) ≡ true) (sym m.0.0)
            (subst (λ (a : Value). holds u.store.heap a (typ (rules_of an frame) (after (rules_of an frame) map key) e) ≡ true) (sym q.1) q.2.0.typed),
      )) (keyed_ends an who y u k v fields d))))
    where
      who : Doer
      who = part_of frame (effects (rules_of an frame) key || effects (rules_of an frame) e)

      Inner : List heaps.Field → State → Type 0
      Inner more t = (k : Value) × (v : Value) × IsKeyed k v fields more × KeyIs key k × HoldStanding t.store.heap more × Stands t.store.heap v
          × (holds t.store.heap v (typ (rules_of an frame) (after (rules_of an frame) map key) e) ≡ true)

      stands_v : (v : Value) (u x : State) → FirstOf (After an frame (after (rules_of an frame) map key) e) v u → Same u x → Stands x.store.heap v
      stands_v v u x q same = subst (λ (a : Store). Stands a.heap v) (sym same.0) (subst (λ (a : Value). Stands u.store.heap a) (sym q.1) (first_stands u.store.heap q.0 q.2.0.stand))

  -- what an item with a key gives, by what the key is
  key_gives : (y z : World) (t u : State) (map : TypeMap) (key e : Expr) (rest : Items) (fields more out : List heaps.Field) → Fine an z t
      → Kept an (part_of frame (effects_of_items (rules_of an frame) rest)) z t y u → KeyedGives an frame map key e fields more t
      → ItemsGive an frame (after_part (effects (rules_of an frame) key || effects (rules_of an frame) e) map) rest more out u
      → ItemsGive an frame map (more_items (Keyed key e) rest) fields out u
  key_gives y z t u map (the_expr id span (StrExpr bytes)) e rest fields more out g k d i =
      name_gives an y z t u frame map (after (rules_of an frame) map (the_expr id span (StrExpr bytes)))
      (after_part (effects (rules_of an frame) (the_expr id span (StrExpr bytes)) || effects (rules_of an frame) e) map) (Keyed (the_expr id span (StrExpr bytes)) e) rest bytes
      (typ (rules_of an frame) (after (rules_of an frame) map (the_expr id span (StrExpr bytes))) e) d.v fields more out
      (subst (λ (x : Value). IsKeyed x d.v fields more) d.key_known d.keyed) (λ n. n) (λ other. refl) refl g k d.there d.typed i
  key_gives y z t u map (the_expr id span (NumberExpr text)) e rest fields more out g k d i =
      other_gives an u frame map (after_part (effects (rules_of an frame) (the_expr id span (NumberExpr text)) || effects (rules_of an frame) e) map)
      (Keyed (the_expr id span (NumberExpr text)) e) rest fields more out (subst (λ (x : Value). IsKeyed x d.v fields more) d.key_known.1 d.keyed) (λ n. n) refl i
  key_gives y z t u map (the_expr id span _) e rest fields more out g k d i = record { stand = i.stand; typed = λ n. cc; spared = λ n. cc }

  pub items_forward : (w : World) (s : State) (map : TypeMap) (items : Items) (fields : List heaps.Field) → Fine an w s → Runs an w s frame → Held an frame map s
      → Inside frame (of_items items) (stats_of_items items) → Placed an frame (seen_items (rules_of an frame) map items) → HoldStanding s.store.heap fields
      → Ends an (part_of frame (effects_of_items (rules_of an frame) items)) w s (ItemsGive an frame map items fields) (item_fields l frame items fields s)
  unfolding ◌>>=◌
  items_forward w s map no_items fields f r h inside placed stand = ends_give an (part_of frame false) w s (ItemsGive an frame map no_items fields) fields f
      (record { stand = stand; typed = λ e. refl; spared = λ e name n. refl })
  items_forward w s map (more_items (Field name e) rest) fields f r h inside placed stand =
      ends_then an (part_of frame (effects (rules_of an frame) e || effects_of_items (rules_of an frame) rest)) w s (FirstOf (After an frame map e))
      (ItemsGive an frame map (more_items (Field name e) rest) fields) (value l frame e s) (λ v. item_fields l frame rest (heaps.written name v fields))
      (ends_more an (expr_of an frame e) (part_of frame (effects (rules_of an frame) e || effects_of_items (rules_of an frame) rest)) w s (FirstOf (After an frame map e)) (value l frame e s)
      (may_first frame (effects (rules_of an frame) e) (effects_of_items (rules_of an frame) rest))
      (value_forward an l fwd w s frame map e f r h (inside_left frame (of_expr e) (of_items rest) (stats_of_expr e) (stats_of_items rest) inside)
      (sub_left (seen_expr (rules_of an frame) map e) (seen_items (rules_of an frame) (after (rules_of an frame) map e) rest) (seen_of an frame) placed)))
      (λ v t z g k p. ends_more an (part_of frame (effects_of_items (rules_of an frame) rest)) (part_of frame (effects (rules_of an frame) e || effects_of_items (rules_of an frame) rest)) z t
      (ItemsGive an frame map (more_items (Field name e) rest) fields) (item_fields l frame rest (heaps.written name v fields) t)
      (may_second frame (effects (rules_of an frame) e) (effects_of_items (rules_of an frame) rest))
      (ends_so an (part_of frame (effects_of_items (rules_of an frame) rest)) z t (ItemsGive an frame (after (rules_of an frame) map e) rest (heaps.written name v fields))
      (ItemsGive an frame map (more_items (Field name e) rest) fields) (item_fields l frame rest (heaps.written name v fields) t)
      (λ out u y q d j i. name_gives an y z t u frame map map (after (rules_of an frame) map e) (Field name e) rest name (typ (rules_of an frame) map e) v fields (heaps.written name v fields) out
      refl (λ n. n) (λ other. refl) refl g j (subst (λ (x : Value). Stands t.store.heap x) (sym p.1) (first_stands t.store.heap p.0 p.2.0.stand))
      (subst (λ (x : Value). holds t.store.heap x (typ (rules_of an frame) map e) ≡ true) (sym p.1) p.2.0.typed) i)
      (items_forward z t (after (rules_of an frame) map e) rest (heaps.written name v fields) g
      (runs_kept an (part_of frame (effects (rules_of an frame) e || effects_of_items (rules_of an frame) rest)) w z s t frame k r) p.2.1
      (inside_right frame (of_expr e) (of_items rest) (stats_of_expr e) (stats_of_items rest) inside)
      (sub_right (seen_expr (rules_of an frame) map e) (seen_items (rules_of an frame) (after (rules_of an frame) map e) rest) (seen_of an frame) placed)
      (written_stands t.store.heap name v fields (subst (λ (x : Value). Stands t.store.heap x) (sym p.1) (first_stands t.store.heap p.0 p.2.0.stand))
      (standing_later s.store.heap t.store.heap fields k.heap stand)))))
  items_forward w s map (more_items (Keyed key e) rest) fields f r h inside placed stand =
      subst (λ (q : Ran (List heaps.Field)). Ends an (part_of frame ((effects (rules_of an frame) key || effects (rules_of an frame) e) || effects_of_items (rules_of an frame) rest)) w s
      (ItemsGive an frame map (more_items (Keyed key e) rest) fields) q)
      (sym (go_after_two (value l frame key s) (λ k. value l frame e) (λ k v. keyed_field k v fields) (item_fields l frame rest)))
      (ends_then an (part_of frame ((effects (rules_of an frame) key || effects (rules_of an frame) e) || effects_of_items (rules_of an frame) rest)) w s (KeyedGives an frame map key e fields)
      (ItemsGive an frame map (more_items (Keyed key e) rest) fields) (go_on (value l frame key s) (λ k t. go_on (value l frame e t) (λ v. keyed_field k v fields))) (item_fields l frame rest)
      (ends_more an (part_of frame (effects (rules_of an frame) key || effects (rules_of an frame) e))
      (part_of frame ((effects (rules_of an frame) key || effects (rules_of an frame) e) || effects_of_items (rules_of an frame) rest)) w s (KeyedGives an frame map key e fields)
      (go_on (value l frame key s) (λ k t. go_on (value l frame e t) (λ v. keyed_field k v fields)))
      (may_first frame (effects (rules_of an frame) key || effects (rules_of an frame) e) (effects_of_items (rules_of an frame) rest))
      (keyed_forward w s map key e fields f r h
      (inside_left frame (of_expr key ++ of_expr e) (of_items rest) (stats_of_expr key ++ stats_of_expr e) (stats_of_items rest) inside)
      (sub_left (seen_expr (rules_of an frame) map key ++ seen_expr (rules_of an frame) (after (rules_of an frame) map key) e)
      (seen_items (rules_of an frame) (after_part (effects (rules_of an frame) key || effects (rules_of an frame) e) map) rest) (seen_of an frame) placed) stand))
      (λ more t z g k d. ends_more an (part_of frame (effects_of_items (rules_of an frame) rest))
      (part_of frame ((effects (rules_of an frame) key || effects (rules_of an frame) e) || effects_of_items (rules_of an frame) rest)) z t
      (ItemsGive an frame map (more_items (Keyed key e) rest) fields) (item_fields l frame rest more t)
      (may_second frame (effects (rules_of an frame) key || effects (rules_of an frame) e) (effects_of_items (rules_of an frame) rest))
      (ends_so an (part_of frame (effects_of_items (rules_of an frame) rest)) z t
      (ItemsGive an frame (after_part (effects (rules_of an frame) key || effects (rules_of an frame) e) map) rest more)
      (ItemsGive an frame map (more_items (Keyed key e) rest) fields) (item_fields l frame rest more t)
      (λ out u y q c j i. key_gives y z t u map key e rest fields more out g j d i)
      (items_forward z t (after_part (effects (rules_of an frame) key || effects (rules_of an frame) e) map) rest more g
      (runs_kept an (part_of frame ((effects (rules_of an frame) key || effects (rules_of an frame) e) || effects_of_items (rules_of an frame) rest)) w z s t frame k r) d.held_there
      (inside_right frame (of_expr key ++ of_expr e) (of_items rest) (stats_of_expr key ++ stats_of_expr e) (stats_of_items rest) inside)
      (sub_right (seen_expr (rules_of an frame) map key ++ seen_expr (rules_of an frame) (after (rules_of an frame) map key) e)
      (seen_items (rules_of an frame) (after_part (effects (rules_of an frame) key || effects (rules_of an frame) e) map) rest) (seen_of an frame) placed) d.stand))))
  items_forward w s map (more_items (Plain e) rest) fields f r h inside placed stand =
      ends_then an (part_of frame (effects (rules_of an frame) e || effects_of_items (rules_of an frame) rest)) w s (After an frame map e)
      (ItemsGive an frame map (more_items (Plain e) rest) fields) (l.values frame e s) (λ vs. item_fields l frame rest fields)
      (ends_more an (expr_of an frame e) (part_of frame (effects (rules_of an frame) e || effects_of_items (rules_of an frame) rest)) w s (After an frame map e) (l.values frame e s)
      (may_first frame (effects (rules_of an frame) e) (effects_of_items (rules_of an frame) rest))
      (ends_so an (expr_of an frame e) w s (Gives an frame map e) (After an frame map e) (l.values frame e s)
      (λ vs t z q g k p. (p, held_after an w z s t frame map (effects (rules_of an frame) e) f r k h))
      (fwd.values w s frame map e f r h (inside_left frame (of_expr e) (of_items rest) (stats_of_expr e) (stats_of_items rest) inside)
      (sub_left (seen_expr (rules_of an frame) map e) (seen_items (rules_of an frame) (after (rules_of an frame) map e) rest) (seen_of an frame) placed))))
      (λ vs t z g k p. ends_more an (part_of frame (effects_of_items (rules_of an frame) rest)) (part_of frame (effects (rules_of an frame) e || effects_of_items (rules_of an frame) rest)) z t
      (ItemsGive an frame map (more_items (Plain e) rest) fields) (item_fields l frame rest fields t)
      (may_second frame (effects (rules_of an frame) e) (effects_of_items (rules_of an frame) rest))
      (ends_so an (part_of frame (effects_of_items (rules_of an frame) rest)) z t (ItemsGive an frame (after (rules_of an frame) map e) rest fields)
      (ItemsGive an frame map (more_items (Plain e) rest) fields) (item_fields l frame rest fields t)
      (λ out u y q d j i. other_gives an u frame map (after (rules_of an frame) map e) (Plain e) rest fields fields out refl (λ n. n) refl i)
      (items_forward z t (after (rules_of an frame) map e) rest fields g
      (runs_kept an (part_of frame (effects (rules_of an frame) e || effects_of_items (rules_of an frame) rest)) w z s t frame k r) p.1
      (inside_right frame (of_expr e) (of_items rest) (stats_of_expr e) (stats_of_items rest) inside)
      (sub_right (seen_expr (rules_of an frame) map e) (seen_items (rules_of an frame) (after (rules_of an frame) map e) rest) (seen_of an frame) placed)
      (standing_later s.store.heap t.store.heap fields k.heap stand))))
