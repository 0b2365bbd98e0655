-- One write to a field or an element: what it leaves, and what lasts through it.
use Rattle.std.proofs.Common.{◌≡◌, ℕ, Bool, true, false, if◌then◌else◌, List, [], ◌∷◌, Some, ◌⊎◌, inl, inr, refl, sym, ◌∙◌, ap, subst, slice_get}
use Rattle.luau_values.specs.Value.{Value, Nil, Truth, Num, Str, Tab, Lit, Builtin, Other}
use Rattle.luau_values.specs.Heap.{Heap, is_frozen, with_field}
use Rattle.luau_values.specs.Stands.{Stands}
use Rattle.luau_run.specs.Machine.{Answer, Reply, Unfit, Fails, Fits, asked, replied, ask, Binding, Store, State, Gave, Failed, ◌>>=◌, look, fail, write_field}
use Rattle.luau_run.specs.Answers.{yes_or_fail}
use Rattle.luau_run.specs.Layer.{Frame}
use Rattle.luau_run.specs.Operators.{set_field}
use Rattle.luau_run.specs.Expressions.{cell_of}
use Rattle.luau_run.specs.Statements.{Target, LocalTarget, GlobalTarget, FieldTarget, ElementTarget, set_other, set_element, write_to}
use Rattle.type_arena.specs.Term.{Term}
use Rattle.type_normal.specs.Holds.{holds}
use Rattle.type_normal.specs.HeapFree.{free_of_name}
use Rattle.type_normal.specs.Failing.{write_fail}
use Rattle.type_normal.proofs.Public.{free_of_written, write_fail_holds}
use Rattle.report_rules.specs.Effects.{OfLocal, OfGlobal, OfField, OfElement}
use Rattle.report_rules.specs.Effects as rules_say
use Rattle.report_rules.specs.TypeMap.{TypeMap}
use Rattle.report_rules.specs.Context.{Context}
use Rattle.run_frame.specs.Analysis.{Analysis}
use Rattle.run_frame.proofs.World.{World}
use Rattle.run_frame.proofs.Kept.{Doer}
use Rattle.run_frame.proofs.Fine.{Fine}
use Rattle.run_frame.proofs.Held.{Reads, Held, Violated}
use Rattle.run_frame.proofs.Parts.{Ends, Same, Says, ends_so, ends_fail, ends_ask, gave_same, gave_not_failed, gave_not_spent}
use Rattle.run_frame.proofs.Tables.{with_heap, IsWritten, ends_write}

clash : {P : Type 0} (b : Bool) → b ≡ true → b ≡ false → P
clash b p q = cc

-- ---- what a write of a name does

-- a table that isn't frozen gets the field; nothing is known of what is no value of another kind, and nothing changes
abbrev pub IsStored : State → List ℕ → (base written : Value) → State → Type 0
IsStored s name (Tab a) v t = IsWritten a name v s t
IsStored s name (Other number) v t = Same s t
IsStored s name base v t = ⊥

pub field_ends : (an : Analysis) (who : Doer) (w : World) (s : State) (name : List ℕ) (v base : Value) → who.calm ≡ false → Fine an w s → Stands s.store.heap v
    → Ends an who w s (λ x t. IsStored s name base v t) (set_field name v base s)
unfolding fail
field_ends an who w s name v (Tab a) stirs f there = ends_write an who w s a name v stirs f there
field_ends an who w s name v (Other number) stirs f there = ends_so an who w s (λ x t. Same s t × Says yes_or_fail x) (λ x t. Same s t) (ask yes_or_fail s)
    (λ x t z e g k p. p.0) (ends_ask an who w s yes_or_fail f)
field_ends an who w s name v Nil stirs f there = ends_fail an who w s s {A = Unit {0}} (λ x t. IsStored s name Nil v t) f (refl, refl)
field_ends an who w s name v (Truth truth) stirs f there = ends_fail an who w s s {A = Unit {0}} (λ x t. IsStored s name (Truth truth) v t) f (refl, refl)
field_ends an who w s name v (Num text) stirs f there = ends_fail an who w s s {A = Unit {0}} (λ x t. IsStored s name (Num text) v t) f (refl, refl)
field_ends an who w s name v (Str bytes) stirs f there = ends_fail an who w s s {A = Unit {0}} (λ x t. IsStored s name (Str bytes) v t) f (refl, refl)
field_ends an who w s name v (Lit home function cells) stirs f there = ends_fail an who w s s {A = Unit {0}} (λ x t. IsStored s name (Lit home function cells) v t) f (refl, refl)
field_ends an who w s name v (Builtin path) stirs f there = ends_fail an who w s s {A = Unit {0}} (λ x t. IsStored s name (Builtin path) v t) f (refl, refl)

-- what was asked for and came changed nothing
ask_same : {A : Type 0} (reply : Answer → Reply A) (s t : State) (x : A) → ask reply s ≡ Gave x t → Same s t
unfolding ask
ask_same {A} reply s t x = by_tape s.tape
  where
    by_reply : (rest : List Answer) (r : Reply A) → replied r s (record s { tape = rest }) ≡ Gave x t → Same s t
    by_reply rest Unfit e = absurd (gave_not_spent s t x e)
    by_reply rest Fails e = absurd (gave_not_failed (record s { tape = rest }) t x e)
    by_reply rest (Fits y) e = let q : (y ≡ x) × (record s { tape = rest } ≡ t) = gave_same y x (record s { tape = rest }) t e in
        (ap (λ (z : State). z.store) (sym q.1), ap (λ (z : State). z.trace) (sym q.1))

    by_tape : (tape : List Answer) → asked reply tape s ≡ Gave x t → Same s t
    by_tape [] e = absurd (gave_not_spent s t x e)
    by_tape (answer ∷ rest) e = by_reply rest (reply answer) e

-- that it gave says what it did
pub field_gave : (s t : State) (name : List ℕ) (v base : Value) (x : Unit {0}) → set_field name v base s ≡ Gave x t → IsStored s name base v t
unfolding write_field fail
field_gave s t name v (Tab a) x = by_mark (is_frozen s.store.heap a) refl
  where
    by_mark : (b : Bool) → is_frozen s.store.heap a ≡ b → (if b then Failed s else Gave (tt {0}) (with_heap (with_field a name v s.store.heap) s)) ≡ Gave x t → IsWritten a name v s t
    by_mark true e k = absurd (gave_not_failed s t x k)
    by_mark false e k = (e, sym (gave_same (tt {0}) x (with_heap (with_field a name v s.store.heap) s) t k).1)
field_gave s t name v (Other number) x = ask_same yes_or_fail s t x
field_gave s t name v Nil x = gave_not_failed s t x
field_gave s t name v (Truth truth) x = gave_not_failed s t x
field_gave s t name v (Num text) x = gave_not_failed s t x
field_gave s t name v (Str bytes) x = gave_not_failed s t x
field_gave s t name v (Lit home function cells) x = gave_not_failed s t x
field_gave s t name v (Builtin path) x = gave_not_failed s t x

-- ---- what a write by a key does

-- by a string it is that of a name; by another key it changes nothing that is known, and the base can be written
abbrev pub IsKeyStored : State → (key base written : Value) → State → Type 0
IsKeyStored s (Str name) base v t = IsStored s name base v t
IsKeyStored s key base v t = Same s t × (holds s.store.heap base write_fail ≡ false)

thawed_writes : (h : Heap) (a : ℕ) → is_frozen h a ≡ false → holds h (Tab a) write_fail ≡ false
thawed_writes h a e = write_fail_holds h (Tab a) ∙ e

other_writes : (h : Heap) (number : ℕ) → holds h (Other number) write_fail ≡ false
other_writes h number = write_fail_holds h (Other number)

abbrev Untouched : State → Value → Unit {0} → State → Type 0
Untouched s base x t = Same s t × (holds s.store.heap base write_fail ≡ false)

other_ends : (an : Analysis) (who : Doer) (w : World) (s : State) (base : Value) → Fine an w s → Ends an who w s (Untouched s base) (set_other base s)
unfolding ◌>>=◌ look fail
other_ends an who w s (Tab a) f = by_mark (is_frozen s.store.heap a) refl
  where
    by_mark : (b : Bool) → is_frozen s.store.heap a ≡ b → Ends an who w s (Untouched s (Tab a)) ((if b then fail else ask yes_or_fail) s)
    by_mark true e = ends_fail an who w s s (Untouched s (Tab a)) f (refl, refl)
    by_mark false e = ends_so an who w s (λ x t. Same s t × Says yes_or_fail x) (Untouched s (Tab a)) (ask yes_or_fail s) (λ x t z q g k p. (p.0, thawed_writes s.store.heap a e))
        (ends_ask an who w s yes_or_fail f)
other_ends an who w s (Other number) f = ends_so an who w s (λ x t. Same s t × Says yes_or_fail x) (Untouched s (Other number)) (ask yes_or_fail s)
    (λ x t z q g k p. (p.0, other_writes s.store.heap number)) (ends_ask an who w s yes_or_fail f)
other_ends an who w s Nil f = ends_fail an who w s s (Untouched s Nil) f (refl, refl)
other_ends an who w s (Truth truth) f = ends_fail an who w s s (Untouched s (Truth truth)) f (refl, refl)
other_ends an who w s (Num text) f = ends_fail an who w s s (Untouched s (Num text)) f (refl, refl)
other_ends an who w s (Str bytes) f = ends_fail an who w s s (Untouched s (Str bytes)) f (refl, refl)
other_ends an who w s (Lit home function cells) f = ends_fail an who w s s (Untouched s (Lit home function cells)) f (refl, refl)
other_ends an who w s (Builtin path) f = ends_fail an who w s s (Untouched s (Builtin path)) f (refl, refl)

pub key_ends : (an : Analysis) (who : Doer) (w : World) (s : State) (key v base : Value) → who.calm ≡ false → Fine an w s → Stands s.store.heap v
    → Ends an who w s (λ x t. IsKeyStored s key base v t) (set_element key v base s)
key_ends an who w s (Str name) v base stirs f there = field_ends an who w s name v base stirs f there
key_ends an who w s Nil v base stirs f there = other_ends an who w s base f
key_ends an who w s (Truth truth) v base stirs f there = other_ends an who w s base f
key_ends an who w s (Num text) v base stirs f there = other_ends an who w s base f
key_ends an who w s (Tab address) v base stirs f there = other_ends an who w s base f
key_ends an who w s (Lit home function cells) v base stirs f there = other_ends an who w s base f
key_ends an who w s (Builtin path) v base stirs f there = other_ends an who w s base f
key_ends an who w s (Other number) v base stirs f there = other_ends an who w s base f

other_gave : (s t : State) (base : Value) (x : Unit {0}) → set_other base s ≡ Gave x t → Untouched s base x t
unfolding ◌>>=◌ look fail
other_gave s t (Tab a) x = by_mark (is_frozen s.store.heap a) refl
  where
    by_mark : (b : Bool) → is_frozen s.store.heap a ≡ b → (if b then fail else ask yes_or_fail) s ≡ Gave x t → Untouched s (Tab a) x t
    by_mark true e k = absurd (gave_not_failed s t x k)
    by_mark false e k = (ask_same yes_or_fail s t x k, thawed_writes s.store.heap a e)
other_gave s t (Other number) x = λ k. (ask_same yes_or_fail s t x k, other_writes s.store.heap number)
other_gave s t Nil x = λ k. absurd (gave_not_failed s t x k)
other_gave s t (Truth truth) x = λ k. absurd (gave_not_failed s t x k)
other_gave s t (Num text) x = λ k. absurd (gave_not_failed s t x k)
other_gave s t (Str bytes) x = λ k. absurd (gave_not_failed s t x k)
other_gave s t (Lit home function cells) x = λ k. absurd (gave_not_failed s t x k)
other_gave s t (Builtin path) x = λ k. absurd (gave_not_failed s t x k)

pub key_gave : (s t : State) (key v base : Value) (x : Unit {0}) → set_element key v base s ≡ Gave x t → IsKeyStored s key base v t
key_gave s t (Str name) v base x = field_gave s t name v base x
key_gave s t Nil v base x = other_gave s t base x
key_gave s t (Truth truth) v base x = other_gave s t base x
key_gave s t (Num text) v base x = other_gave s t base x
key_gave s t (Tab address) v base x = other_gave s t base x
key_gave s t (Lit home function cells) v base x = other_gave s t base x
key_gave s t (Builtin path) v base x = other_gave s t base x
key_gave s t (Other number) v base x = other_gave s t base x

-- ---- what both have in common

-- a table that isn't frozen got a field of a name that may be written
abbrev Changed : (List ℕ → Type 0) → (base written : Value) → Heap → Heap → Type 0
Changed may base v h g = (a : ℕ) × (name : List ℕ) × may name × (is_frozen h a ≡ false) × (g ≡ with_field a name v h)

-- a write to a base that gave: the base can be written, no cell changed, and the heap is the same but for a field of a name that may
-- be written, in a table that isn't frozen
pub record Stored (may : List ℕ → Type 0) (s : State) (base v : Value) (t : State) : Type 0 where
  pub trace : t.trace ≡ s.trace
  pub cells : t.store.cells ≡ s.store.cells
  pub bindings : t.store.bindings ≡ s.store.bindings
  pub writable : holds s.store.heap base write_fail ≡ false
  pub heap : (t.store.heap ≡ s.store.heap) ⊎ Changed may base v s.store.heap t.store.heap

same_stored : (may : List ℕ → Type 0) (s : State) (base v : Value) (t : State) → Same s t → holds s.store.heap base write_fail ≡ false → Stored may s base v t
same_stored may s base v t same e = record {
  trace = same.1;
  cells = ap (λ (x : Store). x.cells) same.0;
  bindings = ap (λ (x : Store). x.bindings) same.0;
  writable = e;
  heap = inl (ap (λ (x : Store). x.heap) same.0);
}

pub field_stored : (may : List ℕ → Type 0) (s : State) (name : List ℕ) (base v : Value) (t : State) → may name → IsStored s name base v t → Stored may s base v t
field_stored may s name (Tab a) v t m (thawed, e) = record {
  trace = ap (λ (x : State). x.trace) e;
  cells = ap (λ (x : State). x.store.cells) e;
  bindings = ap (λ (x : State). x.store.bindings) e;
  writable = thawed_writes s.store.heap a thawed;
  heap = inr (a, name, m, thawed, ap (λ (x : State). x.store.heap) e);
}
field_stored may s name (Other number) v t m same = same_stored may s (Other number) v t same (other_writes s.store.heap number)
field_stored may s name Nil v t m k = absurd k
field_stored may s name (Truth truth) v t m k = absurd k
field_stored may s name (Num text) v t m k = absurd k
field_stored may s name (Str bytes) v t m k = absurd k
field_stored may s name (Lit home function cells) v t m k = absurd k
field_stored may s name (Builtin path) v t m k = absurd k

pub key_stored : (may : List ℕ → Type 0) (s : State) (key base v : Value) (t : State) → ((name : List ℕ) → key ≡ Str name → may name) → IsKeyStored s key base v t → Stored may s base v t
key_stored may s (Str name) base v t m k = field_stored may s name base v t (m name refl) k
key_stored may s Nil base v t m k = same_stored may s base v t k.0 k.1
key_stored may s (Truth truth) base v t m k = same_stored may s base v t k.0 k.1
key_stored may s (Num text) base v t m k = same_stored may s base v t k.0 k.1
key_stored may s (Tab address) base v t m k = same_stored may s base v t k.0 k.1
key_stored may s (Lit home function cells) base v t m k = same_stored may s base v t k.0 k.1
key_stored may s (Builtin path) base v t m k = same_stored may s base v t k.0 k.1
key_stored may s (Other number) base v t m k = same_stored may s base v t k.0 k.1

-- ---- what lasts

-- a type is free of all names that may be written
abbrev pub IsFreeOf : (List ℕ → Type 0) → Term → Type 0
IsFreeOf may type = (name : List ℕ) → may name → free_of_name name type ≡ true

pub type_stored : (may : List ℕ → Type 0) (s : State) (base v : Value) (t : State) (u : Value) (type : Term) → Stored may s base v t → IsFreeOf may type → holds s.store.heap u type ≡ true
    → holds t.store.heap u type ≡ true
type_stored may s base v t u type k free h = by_heap k.heap
  where
    by_heap : (t.store.heap ≡ s.store.heap) ⊎ Changed may base v s.store.heap t.store.heap → holds t.store.heap u type ≡ true
    by_heap (inl e) = subst (λ (g : Heap). holds g u type ≡ true) (sym e) h
    by_heap (inr (a, name, m, thawed, e)) = subst (λ (g : Heap). holds g u type ≡ true) (sym e) (free_of_written s.store.heap a name v u type (free name m) thawed h)

pub reads_stored : (may : List ℕ → Type 0) (frame : Frame) (s : State) (base v : Value) (t : State) (x c : ℕ) (u : Value) → Stored may s base v t → Reads frame s x c u → Reads frame t x c u
reads_stored may frame s base v t x c u k q = (
  subst (λ (bs : List Binding). cell_of bs frame.activation x ≡ Some c) (sym k.bindings) q.0,
  subst (λ (cs : List Value). slice_get cs c ≡ Some u) (sym k.cells) q.1,
)

pub read_stored : (may : List ℕ → Type 0) (frame : Frame) (s : State) (base v : Value) (t : State) (x c : ℕ) (u : Value) → Stored may s base v t → Reads frame t x c u → Reads frame s x c u
read_stored may frame s base v t x c u k q = (
  subst (λ (bs : List Binding). cell_of bs frame.activation x ≡ Some c) k.bindings q.0,
  subst (λ (cs : List Value). slice_get cs c ≡ Some u) k.cells q.1,
)

-- a map whose entries are free of the names
pub held_stored : (an : Analysis) (may : List ℕ → Type 0) (frame : Frame) (map : TypeMap) (s : State) (base v : Value) (t : State) → Stored may s base v t
    → ((x : ℕ) → IsFreeOf may (map.entry x)) → Held an frame map s → Held an frame map t
held_stored an may frame map s base v t k free h = record {
  live = h.live;
  full = h.full;
  entries = λ x c u firm q. type_stored may s base v t u (map.entry x) k (free x) (h.entries x c u firm (read_stored may frame s base v t x c u k q));
}

-- and a context
pub violated_stored : (an : Analysis) (may : List ℕ → Type 0) (frame : Frame) (context : Context) (s : State) (base v : Value) (t : State) → Stored may s base v t
    → ((x : ℕ) → IsFreeOf may (context x)) → Violated an frame context s → Violated an frame context t
violated_stored an may frame context s base v t k free (x, c, u, firm, q, h) =
    (x, c, u, firm, reads_stored may frame s base v t x c u k q, type_stored may s base v t u (context x) k (free x) h)

-- ---- targets

-- the names of fields that may be written at a target: its own, or by another key any
abbrev pub Names : rules_say.Target → List ℕ → Type 0
Names (OfField base name) other = other ≡ name
Names OfElement other = Unit {0}
Names target other = ⊥

-- what was evaluated is as the rules mean it
abbrev pub Meets : rules_say.Target → Target → Type 0
Meets (OfLocal x) (LocalTarget y) = y ≡ x
Meets OfGlobal GlobalTarget = Unit {0}
Meets (OfField base name) (FieldTarget b other) = other ≡ name
Meets (OfField base name) (ElementTarget b key) = key ≡ Str name
Meets OfElement (ElementTarget b key) = Unit {0}
Meets _ _ = ⊥

-- the value whose field or element is written
abbrev pub base_in : Target → Value
base_in (FieldTarget b name) = b.value
base_in (ElementTarget b key) = b.value
base_in target = Nil

same_text : (name other : List ℕ) → Str name ≡ Str other → name ≡ other
same_text name other e = cc

-- a target that is a field or an element
abbrev pub IsTable : Target → Type 0
IsTable (FieldTarget b name) = Unit {0}
IsTable (ElementTarget b key) = Unit {0}
IsTable target = ⊥

pub table_ends : (an : Analysis) (who : Doer) (w : World) (s : State) (frame : Frame) (r : rules_say.Target) (goal : Target) (v : Value) → Meets r goal → IsTable goal → who.calm ≡ false → Fine an w s
    → Stands s.store.heap v → Ends an who w s (λ x t. Stored (Names r) s (base_in goal) v t) (write_to frame goal v s)
table_ends an who w s frame (OfField o name) (FieldTarget b other) v m is stirs f there = ends_so an who w s (λ x t. IsStored s other b.value v t)
    (λ x t. Stored (Names (OfField o name)) s b.value v t) (set_field other v b.value s) (λ x t z e g k p. field_stored (Names (OfField o name)) s other b.value v t m p)
    (field_ends an who w s other v b.value stirs f there)
table_ends an who w s frame (OfField o name) (ElementTarget b key) v m is stirs f there = ends_so an who w s (λ x t. IsKeyStored s key b.value v t)
    (λ x t. Stored (Names (OfField o name)) s b.value v t) (set_element key v b.value s)
    (λ x t z e g k p. key_stored (Names (OfField o name)) s key b.value v t (λ n q. same_text n name (sym q ∙ m)) p) (key_ends an who w s key v b.value stirs f there)
table_ends an who w s frame OfElement (ElementTarget b key) v m is stirs f there = ends_so an who w s (λ x t. IsKeyStored s key b.value v t)
    (λ x t. Stored (Names OfElement) s b.value v t) (set_element key v b.value s) (λ x t z e g k p. key_stored (Names OfElement) s key b.value v t (λ n q. tt) p)
    (key_ends an who w s key v b.value stirs f there)
table_ends an who w s frame OfElement (FieldTarget b other) v m is stirs f there = absurd m
table_ends an who w s frame (OfLocal x) (FieldTarget b other) v m is stirs f there = absurd m
table_ends an who w s frame (OfLocal x) (ElementTarget b key) v m is stirs f there = absurd m
table_ends an who w s frame OfGlobal (FieldTarget b other) v m is stirs f there = absurd m
table_ends an who w s frame OfGlobal (ElementTarget b key) v m is stirs f there = absurd m
table_ends an who w s frame r (LocalTarget y) v m is stirs f there = absurd is
table_ends an who w s frame r GlobalTarget v m is stirs f there = absurd is

pub table_gave : (s t : State) (frame : Frame) (r : rules_say.Target) (goal : Target) (v : Value) (x : Unit {0}) → Meets r goal → IsTable goal → write_to frame goal v s ≡ Gave x t
    → Stored (Names r) s (base_in goal) v t
table_gave s t frame (OfField o name) (FieldTarget b other) v x m is e = field_stored (Names (OfField o name)) s other b.value v t m (field_gave s t other v b.value x e)
table_gave s t frame (OfField o name) (ElementTarget b key) v x m is e =
    key_stored (Names (OfField o name)) s key b.value v t (λ n q. same_text n name (sym q ∙ m)) (key_gave s t key v b.value x e)
table_gave s t frame OfElement (ElementTarget b key) v x m is e = key_stored (Names OfElement) s key b.value v t (λ n q. tt) (key_gave s t key v b.value x e)
table_gave s t frame OfElement (FieldTarget b other) v x m is e = absurd m
table_gave s t frame (OfLocal y) (FieldTarget b other) v x m is e = absurd m
table_gave s t frame (OfLocal y) (ElementTarget b key) v x m is e = absurd m
table_gave s t frame OfGlobal (FieldTarget b other) v x m is e = absurd m
table_gave s t frame OfGlobal (ElementTarget b key) v x m is e = absurd m
table_gave s t frame r (LocalTarget y) v x m is e = absurd is
table_gave s t frame r GlobalTarget v x m is e = absurd is
