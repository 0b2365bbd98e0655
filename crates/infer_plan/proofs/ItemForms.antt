-- What table constructors are made of.
use Rattle.std.specs.Prelude.{◌||◌, Option, Some, None, if◌then◌else◌}
use Rattle.std.proofs.Common.{◌≡◌, ℕ, Bool, true, false, List, [], ◌∷◌, ◌++◌, refl, sym, ap, ◌∙◌, append_assoc, append-nil}
use Rattle.luau_tree.specs.Tree.{Expr, the_expr, Item, Field, Keyed, Plain, Items, no_items, more_items, TableExpr, NilExpr, TrueExpr, FalseExpr, NumberExpr, StrExpr, Vararg, FunctionExpr, NameExpr, Index, At, Call, Method, Paren, Unary, Binary, IfElse, Interp, Assert}
use Rattle.type_arena.specs.Term.{Term, Fields}
use Rattle.type_normal.specs.Kinds.{table_type, row_type}
use Rattle.report_rules.specs.Rules.{Rules}
use Rattle.report_rules.specs.Effects.{effects_of_item, effects_of_items}
use Rattle.report_rules.specs.TypeMap.{TypeMap}
use Rattle.report_rules.specs.Forward.{typ, after, after_part, held, fields_of_items, with_keyed, with_earlier, type_of_kind, has_other_key}
use Rattle.report_rules.specs.Seen.{Seen, seen_expr, seen_item, seen_items}
use Rattle.local_types.specs.Named.{fields_named}
use Rattle.rule_work.specs.Work.{Work}
use Rattle.rule_work.specs.Moves.{valued, put_aside, taken, unlisted, kept_map, restored, list_begun}
use Rattle.infer_plan.specs.Steps.{with_expr, with_kind, with_item, made_table, is_other_item, changed, added_by, each_item, item_names, name_before, key_name, element}
use Rattle.rule_work.specs.Tables.{rowed}

-- fields with one more, if it has a name
abbrev keyed_by : Option (List ℕ) → Term → Fields → Fields
keyed_by (Some name) type later = with_earlier name type later
keyed_by None type later = later

-- the form of a key tells only its name
keyed_is : (key : Expr) (type : Term) (later : Fields) → with_keyed key type later ≡ keyed_by (key_name key) type later
keyed_is (the_expr id span NilExpr) type later = refl
keyed_is (the_expr id span TrueExpr) type later = refl
keyed_is (the_expr id span FalseExpr) type later = refl
keyed_is (the_expr id span (NumberExpr text)) type later = refl
keyed_is (the_expr id span (StrExpr name)) type later = refl
keyed_is (the_expr id span Vararg) type later = refl
keyed_is (the_expr id span (FunctionExpr body)) type later = refl
keyed_is (the_expr id span (NameExpr name)) type later = refl
keyed_is (the_expr id span (Index base name)) type later = refl
keyed_is (the_expr id span (At base key)) type later = refl
keyed_is (the_expr id span (Call callee args)) type later = refl
keyed_is (the_expr id span (Method base name name_span args)) type later = refl
keyed_is (the_expr id span (Paren e)) type later = refl
keyed_is (the_expr id span (Unary op e)) type later = refl
keyed_is (the_expr id span (Binary op left right)) type later = refl
keyed_is (the_expr id span (IfElse arms last)) type later = refl
keyed_is (the_expr id span (TableExpr items)) type later = refl
keyed_is (the_expr id span (Interp texts parts)) type later = refl
keyed_is (the_expr id span (Assert e syntax)) type later = refl

-- the type of an element
pub element_is : (rules : Rules) (map : TypeMap) (id : ℕ) (base key : Expr) → element (key_name key) (typ rules map base) ≡ type_of_kind rules map id (At base key)
element_is rules map id base (the_expr key_id span NilExpr) = refl
element_is rules map id base (the_expr key_id span TrueExpr) = refl
element_is rules map id base (the_expr key_id span FalseExpr) = refl
element_is rules map id base (the_expr key_id span (NumberExpr text)) = refl
element_is rules map id base (the_expr key_id span (StrExpr name)) = refl
element_is rules map id base (the_expr key_id span Vararg) = refl
element_is rules map id base (the_expr key_id span (FunctionExpr body)) = refl
element_is rules map id base (the_expr key_id span (NameExpr name)) = refl
element_is rules map id base (the_expr key_id span (Index b name)) = refl
element_is rules map id base (the_expr key_id span (At b key)) = refl
element_is rules map id base (the_expr key_id span (Call callee args)) = refl
element_is rules map id base (the_expr key_id span (Method b name name_span args)) = refl
element_is rules map id base (the_expr key_id span (Paren e)) = refl
element_is rules map id base (the_expr key_id span (Unary op e)) = refl
element_is rules map id base (the_expr key_id span (Binary op left right)) = refl
element_is rules map id base (the_expr key_id span (IfElse arms last)) = refl
element_is rules map id base (the_expr key_id span (TableExpr items)) = refl
element_is rules map id base (the_expr key_id span (Interp texts parts)) = refl
element_is rules map id base (the_expr key_id span (Assert e syntax)) = refl

-- the types of named items
abbrev type_before : Option (List ℕ) → Term → List Term → List Term
type_before (Some name) type types = type ∷ types
type_before None type types = types

abbrev item_type : Rules → TypeMap → (effects_later : Bool) → Item → List Term → List Term
item_type rules map later (Field name e) types = held later (typ rules map e) ∷ types
item_type rules map later (Keyed key e) types = type_before (key_name key) (held later (typ rules (after rules map key) e)) types
item_type rules map later (Plain e) types = types

abbrev item_types : Rules → TypeMap → Items → List Term
item_types rules map no_items = []
item_types rules map (more_items item rest) =
    item_type rules map (effects_of_items rules rest) item (item_types rules (after_part (effects_of_item rules item) map) rest)

named_field : (name : Option (List ℕ)) (type : Term) (names : List (List ℕ)) (types : List Term)
    → keyed_by name type (fields_named names types) ≡ fields_named (name_before name names) (type_before name type types)
named_field (Some name) type names types = refl
named_field None type names types = refl

fields_are : (rules : Rules) (map : TypeMap) (items : Items) → fields_of_items rules map items ≡ fields_named (item_names items) (item_types rules map items)
fields_are rules map no_items = refl
fields_are rules map (more_items (Field name e) rest) =
    ap (with_earlier name (held (effects_of_items rules rest) (typ rules map e))) (fields_are rules (after_part (effects_of_item rules (Field name e)) map) rest)
fields_are rules map (more_items (Keyed key e) rest) =
    let type = held (effects_of_items rules rest) (typ rules (after rules map key) e) in
    let map' = after_part (effects_of_item rules (Keyed key e)) map in
    keyed_is key type (fields_of_items rules map' rest)
    ∙ ap (keyed_by (key_name key) type) (fields_are rules map' rest) ∙ named_field (key_name key) type (item_names rest) (item_types rules map' rest)
fields_are rules map (more_items (Plain e) rest) = fields_are rules (after_part (effects_of_item rules (Plain e)) map) rest

-- with more types in the innermost list, another map and more seen
abbrev grown : List Term → List (List Term) → TypeMap → List Seen → Work → Work
grown types lists map seen work = record work { lists = types ∷ lists; map = map; seen = seen }

-- one more type, if there is a name
added_named : (name : Option (List ℕ)) (types : List Term) (lists : List (List Term)) (work : Work)
    → added_by name (record work { lists = types ∷ lists }) ≡ record work { lists = (types ++ type_before name work.value []) ∷ lists }
added_named (Some name) types lists work = refl
added_named None types lists work = ap (λ (ts : List Term). record work { lists = ts ∷ lists }) (sym (append-nil types))

with_item_grown : (rules : Rules) (later : Bool) (item : Item) (types : List Term) (lists : List (List Term)) (map : TypeMap) (seen : List Seen) (work : Work)
    → with_item rules later item (grown types lists map seen work)
    ≡ grown (types ++ item_type rules map later item []) lists (after_part (effects_of_item rules item) map) (seen ++ seen_item rules map item) work
with_item_grown rules later (Field name e) types lists map seen work = refl
with_item_grown rules later (Keyed key e) types lists map seen work =
    let one = with_expr rules e (with_expr rules key (put_aside (kept_map (grown types lists map seen work)))) in
    let type = held later (typ rules (after rules map key) e) in
    let has = effects_of_item rules (Keyed key e) in
    ap (λ (w : Work). changed has (restored (taken w))) (added_named (key_name key) types lists (valued type one))
    ∙ ap (λ (ss : List Seen). grown (types ++ type_before (key_name key) type []) lists (after_part has map) ss work) (append_assoc seen (seen_expr rules map key) (seen_expr rules (after rules map key) e))
with_item_grown rules later (Plain e) types lists map seen work =
    ap (λ (ts : List Term). grown ts lists (after_part (effects_of_item rules (Plain e)) map) (seen ++ seen_expr rules map e) work) (sym (append-nil types))

-- types with more before them
types_before : (rules : Rules) (map : TypeMap) (later : Bool) (item : Item) (types : List Term)
    → item_type rules map later item [] ++ types ≡ item_type rules map later item types
types_before rules map later (Field name e) types = refl
types_before rules map later (Keyed key e) types = before_by (key_name key) (held later (typ rules (after rules map key) e)) types
  where
    before_by : (name : Option (List ℕ)) (type : Term) (types : List Term) → type_before name type [] ++ types ≡ type_before name type types
    before_by (Some name) type types = refl
    before_by None type types = refl
types_before rules map later (Plain e) types = refl

-- the map behind items
abbrev map_behind : Rules → TypeMap → Items → TypeMap
map_behind rules map no_items = map
map_behind rules map (more_items item rest) = map_behind rules (after_part (effects_of_item rules item) map) rest

each_item_grown : (rules : Rules) (items : Items) (types : List Term) (lists : List (List Term)) (map : TypeMap) (seen : List Seen) (work : Work)
    → each_item rules items (grown types lists map seen work)
    ≡ grown (types ++ item_types rules map items) lists (map_behind rules map items) (seen ++ seen_items rules map items) work
each_item_grown rules no_items types lists map seen work =
    ap (λ (ts : List Term). grown ts lists map seen work) (sym (append-nil types))
    ∙ ap (λ (ss : List Seen). grown (types ++ []) lists map ss work) (sym (append-nil seen))
each_item_grown rules (more_items item rest) types lists map seen work =
    let later = effects_of_items rules rest in
    let map' = after_part (effects_of_item rules item) map in
    let one = item_type rules map later item [] in
    let more = item_types rules map' rest in
    ap (each_item rules rest) (with_item_grown rules later item types lists map seen work)
    ∙ each_item_grown rules rest (types ++ one) lists map' (seen ++ seen_item rules map item) work
    ∙ ap (λ (ts : List Term). grown ts lists (map_behind rules map' rest) ((seen ++ seen_item rules map item) ++ seen_items rules map' rest) work)
    (append_assoc types one more ∙ ap (λ (ts : List Term). types ++ ts) (types_before rules map later item more))
    ∙ ap (λ (ss : List Seen). grown (types ++ item_types rules map (more_items item rest)) lists (map_behind rules map' rest) ss work) (append_assoc seen (seen_item rules map item) (seen_items rules map' rest))

-- the type by whether a key may be any name
abbrev table_of : Bool → Fields → Term
table_of other fields = if other then table_type else row_type false fields

-- a table some of whose keys may be any name, and one that has none
other_table_form : (rules : Rules) (id : ℕ) (items : Items) (work : Work) → has_other_key items ≡ true
    → valued table_type (restored (unlisted (each_item rules items (kept_map (list_begun work))))) ≡ with_kind rules id (TableExpr items) work
other_table_form rules id items work other =
    ap (λ (w : Work). valued table_type (restored (unlisted w))) (each_item_grown rules items [] work.lists work.map work.seen (kept_map work))
    ∙ ap (λ (b : Bool). record work { value = table_of b (fields_of_items rules work.map items); seen = work.seen ++ seen_items rules work.map items }) (sym other)

named_table_form : (rules : Rules) (id : ℕ) (items : Items) (work : Work) → has_other_key items ≡ false
    → restored (rowed (item_names items) (each_item rules items (kept_map (list_begun work)))) ≡ with_kind rules id (TableExpr items) work
named_table_form rules id items work other =
    ap (λ (w : Work). restored (rowed (item_names items) w)) (each_item_grown rules items [] work.lists work.map work.seen (kept_map work))
    ∙ ap (λ (fields : Fields). record work { value = row_type false fields; seen = work.seen ++ seen_items rules work.map items }) (sym (fields_are rules work.map items))
    ∙ ap (λ (b : Bool). record work { value = table_of b (fields_of_items rules work.map items); seen = work.seen ++ seen_items rules work.map items }) (sym other)

table_by : (rules : Rules) (id : ℕ) (items : Items) (work : Work) (other : Bool) → has_other_key items ≡ other
    → made_table other (item_names items) (each_item rules items (kept_map (list_begun work))) ≡ with_kind rules id (TableExpr items) work
table_by rules id items work true is = other_table_form rules id items work is
table_by rules id items work false is = named_table_form rules id items work is

pub table_form : (rules : Rules) (id : ℕ) (items : Items) (work : Work)
    → made_table (has_other_key items) (item_names items) (each_item rules items (kept_map (list_begun work))) ≡ with_kind rules id (TableExpr items) work
table_form rules id items work = table_by rules id items work (has_other_key items) refl

-- a table has such a key where its first item has one, or the others
pub other_first : (item : Item) (rest : Items) → has_other_key (more_items item rest) ≡ (is_other_item item || has_other_key rest)
other_first (Field name e) rest = refl
other_first (Keyed key e) rest = refl
other_first (Plain e) rest = refl
