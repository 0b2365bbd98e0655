-- Moves on tables: a new one, a write to a field, and freezing.
use Rattle.std.proofs.Common.{◌≡◌, ℕ, Bool, true, false, if◌then◌else◌, List, [], length, refl, sym, subst, arith, IsFalse}
use Rattle.luau_values.specs.Value.{Value}
use Rattle.luau_values.specs.Heap.{Heap, Field, value_of, is_frozen, with_table, with_field, with_frozen}
use Rattle.luau_values.specs.Later.{Later}
use Rattle.luau_values.specs.Grows.{Grows}
use Rattle.luau_values.specs.Stands.{Stands, FieldsStand}
use Rattle.luau_values.proofs.Public.{table_later, write_later, freeze_later, table_grows, freeze_grows, table_stands, write_stands, freeze_stands, stands_later}
use Rattle.luau_run.specs.Machine.{State, Ran, Gave, Failed, ◌>>=◌, look, change, give, make_table, write_field, freeze_table}
use Rattle.run_frame.specs.Analysis.{Analysis}
use Rattle.run_frame.proofs.World.{World, front_refl}
use Rattle.run_frame.proofs.Kept.{Doer, nobody, Kept}
use Rattle.run_frame.proofs.Fine.{Fine, fine_moved}
use Rattle.run_frame.proofs.Parts.{Ends, ends_fail}

-- the state with another heap
abbrev pub with_heap : Heap → State → State
with_heap heap s = record s { store = record s.store { heap = heap } }

-- a move that changes the heap alone
kept_heap : (an : Analysis) (who : Doer) (w : World) (s : State) (heap : Heap) → Later s.store.heap heap → (who.calm ≡ true → Grows s.store.heap heap)
    → Kept an who w s w (with_heap heap s)
kept_heap an who w s heap later grows = record {
  owners = front_refl w.owners;
  modules = front_refl w.modules;
  cells = λ c o e l p. refl;
  new = [];
  bindings = refl;
  whose = tt;
  heap = later;
  calm = grows;
  counts = λ b l n. refl;
  begun = omega arith;
}

fine_heap : (an : Analysis) (who : Doer) (w : World) (s : State) (heap : Heap) → Fine an w s → FieldsStand heap → Kept an who w s w (with_heap heap s)
    → Fine an w (with_heap heap s)
fine_heap an who w s heap f fields k = fine_moved an who w w s (with_heap heap s) f k (record {
  owned = f.owned;
  ran = f.ran;
  older = f.older;
  bound = f.bound;
  stand = λ c u e. stands_later s.store.heap heap u k.heap (f.stand c u e);
  fields = fields;
  fixed = f.fixed;
  closures = refl;
  loaded = refl;
  stays = f.stays;
  young = f.young;
})

-- ---- a new table

pub makes_so : (fields : List Field) (s : State) → make_table fields s ≡ Gave (length s.store.heap) (with_heap (with_table fields s.store.heap) s)
unfolding ◌>>=◌ look change give
makes_so fields s = refl

pub kept_table : (an : Analysis) (who : Doer) (w : World) (s : State) (fields : List Field) → Kept an who w s w (with_heap (with_table fields s.store.heap) s)
kept_table an who w s fields = kept_heap an who w s (with_table fields s.store.heap) (table_later s.store.heap fields) (λ c. table_grows s.store.heap fields)

-- what its fields hold stands
pub fine_table : (an : Analysis) (w : World) (s : State) (fields : List Field) → Fine an w s → ((name : List ℕ) → Stands s.store.heap (value_of name fields))
    → Fine an w (with_heap (with_table fields s.store.heap) s)
fine_table an w s fields f there = fine_heap an (nobody true) w s (with_table fields s.store.heap) f
    (table_stands s.store.heap fields f.fields (λ name. stands_later s.store.heap (with_table fields s.store.heap) (value_of name fields) (table_later s.store.heap fields) (there name)))
    (kept_table an (nobody true) w s fields)

-- what a new table is: at its address, which stands, in the heap with it
abbrev pub IsMade : List Field → State → ℕ → State → Type 0
IsMade fields s address t = (address ≡ length s.store.heap) × (t ≡ with_heap (with_table fields s.store.heap) s)

pub ends_table : (an : Analysis) (who : Doer) (w : World) (s : State) (fields : List Field) → Fine an w s → ((name : List ℕ) → Stands s.store.heap (value_of name fields))
    → Ends an who w s (IsMade fields s) (make_table fields s)
ends_table an who w s fields f there = subst (λ (r : Ran ℕ). Ends an who w s (IsMade fields s) r) (sym (makes_so fields s))
    (w, fine_table an w s fields f there, kept_table an who w s fields, (refl, refl))

-- ---- a write to a field, by a part that isn't calm

pub kept_write : (an : Analysis) (who : Doer) (w : World) (s : State) (a : ℕ) (name : List ℕ) (value : Value) → who.calm ≡ false → IsFalse (is_frozen s.store.heap a)
    → Kept an who w s w (with_heap (with_field a name value s.store.heap) s)
kept_write an who w s a name value stirs thawed =
    kept_heap an who w s (with_field a name value s.store.heap) (write_later s.store.heap a name value thawed) (λ c. absurd (off c stirs))
  where
    off : who.calm ≡ true → who.calm ≡ false → ⊥
    off y z = cc

pub fine_write : (an : Analysis) (w : World) (s : State) (a : ℕ) (name : List ℕ) (value : Value) → IsFalse (is_frozen s.store.heap a) → Fine an w s
    → Stands s.store.heap value → Fine an w (with_heap (with_field a name value s.store.heap) s)
fine_write an w s a name value thawed f there =
    fine_heap an (nobody false) w s (with_field a name value s.store.heap) f (write_stands s.store.heap a name value f.fields there) (kept_write an (nobody false) w s a name value refl thawed)

-- what a write leaves
abbrev pub IsWritten : (address : ℕ) → (name : List ℕ) → Value → State → State → Type 0
IsWritten a name value s t = (is_frozen s.store.heap a ≡ false) × (t ≡ with_heap (with_field a name value s.store.heap) s)

pub ends_write : (an : Analysis) (who : Doer) (w : World) (s : State) (a : ℕ) (name : List ℕ) (value : Value) → who.calm ≡ false → Fine an w s → Stands s.store.heap value
    → Ends an who w s (λ x t. IsWritten a name value s t) (write_field a name value s)
unfolding write_field
ends_write an who w s a name value stirs f there = by_mark (is_frozen s.store.heap a) refl
  where
    by_mark : (b : Bool) → is_frozen s.store.heap a ≡ b
        → Ends an who w s (λ x t. IsWritten a name value s t) (if b then Failed s else Gave (tt {0}) (with_heap (with_field a name value s.store.heap) s))
    by_mark true e = ends_fail an who w s s {A = Unit {0}} (λ x t. IsWritten a name value s t) f (refl, refl)
    by_mark false e =
        (w, fine_write an w s a name value e f there, kept_write an who w s a name value stirs e, (e, refl))

-- ---- freezing

pub freezes_so : (a : ℕ) (s : State) → freeze_table a s ≡ Gave tt (with_heap (with_frozen a s.store.heap) s)
unfolding change
freezes_so a s = refl

pub ends_freeze : (an : Analysis) (who : Doer) (w : World) (s : State) (a : ℕ) → Fine an w s
    → Ends an who w s (λ x t. t ≡ with_heap (with_frozen a s.store.heap) s) (freeze_table a s)
ends_freeze an who w s a f = subst (λ (r : Ran (Unit {0})). Ends an who w s (λ x t. t ≡ with_heap (with_frozen a s.store.heap) s) r) (sym (freezes_so a s))
    (w, fine_heap an who w s (with_frozen a s.store.heap) f (freeze_stands s.store.heap a f.fields) kept, kept, refl)
  where
    kept : Kept an who w s w (with_heap (with_frozen a s.store.heap) s)
    kept = kept_heap an who w s (with_frozen a s.store.heap) (freeze_later s.store.heap a) (λ c. freeze_grows s.store.heap a)
