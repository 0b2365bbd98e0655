-- Names: of locals, of builtins, of libraries and of globals.
use Rattle.std.proofs.Common.{◌≡◌, ℕ, ◌<◌, Bool, true, false, not, ◌==◌, if◌then◌else◌, List, [], ◌∷◌, length, Option, Some, None, ◌⊎◌, inl, inr, refl, sym, ◌∙◌, ap, subst, arith, slice_get}
use Rattle.std.specs.List.{position}
use Rattle.std.specs.Str.{bytes_eq}
use Rattle.std.proofs.lemmas.Bool.{eqb-true}
use Rattle.std.proofs.lemmas.List.Quantifiers.{position-Some}
use Rattle.std.proofs.lemmas.Cmp.{tied_itself}
use Rattle.luau_values.specs.Value.{Value, Nil, Truth, Num, Str, Tab, Lit, Builtin, Other}
use Rattle.luau_values.specs.Heap.{Heap}
use Rattle.luau_values.specs.Stands.{Stands}
use Rattle.luau_values.specs.Start.{libraries}
use Rattle.luau_run.specs.Program.{Program, paths}
use Rattle.luau_run.specs.ReadModule.{Use, UseLocal, UseBuiltin, UseLibrary, UseGlobal}
use Rattle.luau_run.specs.ReadFolder.{local_of}
use Rattle.luau_run.specs.Machine.{Answer, One, Fits, Store, State, Part, ◌>>=◌, give, spend, look, ask}
use Rattle.luau_run.specs.Answers.{is_there, fits_if, a_value}
use Rattle.luau_run.specs.Layer.{Frame}
use Rattle.luau_run.specs.Operators.{is_true, any_value}
use Rattle.luau_run.specs.Expressions.{cell_of, local_cell, cell_value, local_value, table_or_spend, named, one}
use Rattle.type_arena.specs.Term.{Term, never, builtin}
use Rattle.type_normal.specs.Holds.{holds}
use Rattle.type_normal.specs.Kinds.{unknown, named_type, table_type, is_falsy, falsy, truthy}
use Rattle.type_normal.specs.Cut.{cut_down}
use Rattle.type_normal.proofs.Public.{unknown_all, never_none, falsy_holds, truthy_holds, cut_down_below}
use Rattle.type_normal.proofs.OrderFacts.{functions_total}
use Rattle.report_rules.specs.Rules.{Rules, loose, fixed_use}
use Rattle.report_rules.specs.TypeMap.{TypeMap, local_type}
use Rattle.report_rules.specs.Forward.{name_type, builtin_or}
use Rattle.report_rules.specs.Guard.{firm_only, name_says}
use Rattle.report_rules.specs.Context.{only_for}
use Rattle.report_rules.specs.Errors.{name_context, unless_builtin}
use Rattle.run_frame.specs.Analysis.{Analysis}
use Rattle.run_frame.proofs.World.{World}
use Rattle.run_frame.proofs.Kept.{Doer}
use Rattle.run_frame.proofs.Fine.{Fine}
use Rattle.run_frame.proofs.Held.{Runs, Reads, Held, Violated, HasOwner, bound_well, same_some}
use Rattle.run_frame.proofs.Parts.{Ends, Same, Says, ends_then, ends_so, ends_give, ends_ask}
use Rattle.run_frame.proofs.Closures.{ends_cell}
use Rattle.run_frame.proofs.Layers.{rules_of, Shows}

-- ---- what a name gives

-- one value, as a list
pub ends_one : (an : Analysis) (who : Doer) (w : World) (s : State) (P : Value → State → Type 0) (part : Part Value) → Ends an who w s P (part s)
    → Ends an who w s (λ vs t. (v : Value) × (vs ≡ v ∷ []) × P v t) (one part s)
unfolding ◌>>=◌
ends_one an who w s P part h = ends_then an who w s P (λ vs t. (v : Value) × (vs ≡ v ∷ []) × P v t) (part s) (λ v. give (v ∷ [])) h
    (λ v t z g k p. ends_give an who z t (λ vs t. (v : Value) × (vs ≡ v ∷ []) × P v t) (v ∷ []) g (v, refl, p))

ends_cell_value : (an : Analysis) (who : Doer) (w : World) (s : State) (o : Option Value) → Fine an w s → Ends an who w s (λ v t. Same s t × (o ≡ Some v)) (cell_value o s)
unfolding spend
ends_cell_value an who w s None f = f.stays
ends_cell_value an who w s (Some v) f = ends_give an who w s (λ u t. Same s t × (Some v ≡ Some u)) v f ((refl, refl), refl)

-- what a local holds
pub ends_local : (an : Analysis) (who : Doer) (w : World) (s : State) (frame : Frame) (x : ℕ) → Fine an w s
    → Ends an who w s (λ v t. Same s t × ((c : ℕ) × Reads frame s x c v)) (local_value frame x s)
unfolding ◌>>=◌ look
ends_local an who w s frame x f =
    ends_then an who w s (λ c t. Same s t × (cell_of s.store.bindings frame.activation x ≡ Some c)) (λ v t. Same s t × ((c : ℕ) × Reads frame s x c v)) (local_cell frame x s)
    (λ cell t. cell_value (slice_get t.store.cells cell) t) (ends_cell an who w s frame x f)
    (λ c t z g k p. ends_so an who z t (λ v u. Same t u × (slice_get t.store.cells c ≡ Some v)) (λ v u. Same s u × ((d : ℕ) × Reads frame s x d v))
    (cell_value (slice_get t.store.cells c) t)
    (λ v u y e h j q. ((q.0.0 ∙ p.0.0, q.0.1 ∙ p.0.1), (c, (p.1, subst (λ (b : Store). slice_get b.cells c ≡ Some v) p.0.0 q.1))))
    (ends_cell_value an who z t (slice_get t.store.cells c) g))

-- any value that is there stands
there_stands : (program : Program) (store : Store) (v : Value) → is_there program store v ≡ true → Stands store.heap v
there_stands program store Nil h = tt
there_stands program store (Truth truth) h = tt
there_stands program store (Num text) h = tt
there_stands program store (Str bytes) h = tt
there_stands program store (Tab address) h = grind arith
there_stands program store (Lit home function cells) h = tt
there_stands program store (Builtin path) h = tt
there_stands program store (Other number) h = tt

fits_so : {A : Type 0} (b : Bool) (x y : A) → fits_if b x ≡ Fits y → (b ≡ true) × (x ≡ y)
fits_so true x y e = (refl, cc)
fits_so false x y e = cc

pub value_stands : (program : Program) (store : Store) (answer : Answer) (v : Value) → a_value program store answer ≡ Fits v → Stands store.heap v
value_stands program store (One u) v e =
    let p : (is_there program store u ≡ true) × (u ≡ v) = fits_so (is_there program store u) u v e in
    subst (λ (y : Value). Stands store.heap y) p.1 (there_stands program store u p.0)
value_stands program store _ v e = cc

pub ends_any : (an : Analysis) (who : Doer) (w : World) (s : State) → Fine an w s → Ends an who w s (λ v t. Same s t × Stands s.store.heap v) (any_value an.program s)
unfolding ◌>>=◌ look
ends_any an who w s f = ends_so an who w s (λ v t. Same s t × Says (a_value an.program s.store) v) (λ v t. Same s t × Stands s.store.heap v) (ask (a_value an.program s.store) s)
    (λ v t z e g k p. (p.0, value_stands an.program s.store p.1.0 v p.1.1)) (ends_ask an who w s (a_value an.program s.store) f)

-- what a name gives, by what it stands for
abbrev pub IsNamed : Frame → State → Option Use → Value → Type 0
IsNamed frame s (Some (UseLocal x)) v = (c : ℕ) × Reads frame s x c v
IsNamed frame s (Some (UseBuiltin path)) v = v ≡ Builtin path
IsNamed frame s (Some UseLibrary) v = (a : ℕ) × (v ≡ Tab a) × (a < length s.store.heap)
IsNamed frame s (Some UseGlobal) v = Stands s.store.heap v
IsNamed frame s None v = ⊥

ends_library : (an : Analysis) (who : Doer) (w : World) (s : State) (frame : Frame) (name : List ℕ) (o : Option ℕ) → position (bytes_eq name) (libraries (paths an.program)) ≡ o
    → Fine an w s → Ends an who w s (λ v t. Same s t × IsNamed frame s (Some UseLibrary) v) (table_or_spend o s)
unfolding spend
ends_library an who w s frame name None e f = f.stays
ends_library an who w s frame name (Some a) e f = ends_give an who w s (λ v t. Same s t × IsNamed frame s (Some UseLibrary) v) (Tab a) f
    ((refl, refl), (a, refl, omega (arith, f.libraries, (position-Some (bytes_eq name) (libraries (paths an.program)) a [] e).0)))

pub ends_named : (an : Analysis) (who : Doer) (w : World) (s : State) (frame : Frame) (name : List ℕ) (use_here : Option Use) → Fine an w s
    → Ends an who w s (λ v t. Same s t × IsNamed frame s use_here v) (named an.program frame name use_here s)
unfolding spend
ends_named an who w s frame name (Some (UseLocal x)) f = ends_local an who w s frame x f
ends_named an who w s frame name (Some (UseBuiltin path)) f =
    ends_give an who w s (λ v t. Same s t × IsNamed frame s (Some (UseBuiltin path)) v) (Builtin path) f ((refl, refl), refl)
ends_named an who w s frame name (Some UseLibrary) f = ends_library an who w s frame name (position (bytes_eq name) (libraries (paths an.program))) refl f
ends_named an who w s frame name (Some UseGlobal) f = ends_any an who w s f
ends_named an who w s frame name None f = f.stays

-- ---- what that says

pub named_stands : (an : Analysis) (w : World) (s : State) (frame : Frame) (use_here : Option Use) (v : Value) → Fine an w s → IsNamed frame s use_here v → Stands s.store.heap v
named_stands an w s frame (Some (UseLocal x)) v f h = f.stand h.0 v h.1.1
named_stands an w s frame (Some (UseBuiltin path)) v f h = subst (λ (y : Value). Stands s.store.heap y) (sym h) tt
named_stands an w s frame (Some UseLibrary) v f h = subst (λ (y : Value). Stands s.store.heap y) (sym h.1) h.2
named_stands an w s frame (Some UseGlobal) v f h = h
named_stands an w s frame None v f h = absurd h

-- a local that isn't loose holds what its entry says
local_typed : (an : Analysis) (s : State) (frame : Frame) (map : TypeMap) (x c : ℕ) (v : Value) → Held an frame map s → Reads frame s x c v
    → holds s.store.heap v (local_type (rules_of an frame) map x) ≡ true
local_typed an s frame map x c v h q = by_loose (loose (rules_of an frame) x) refl
  where
    by_loose : (b : Bool) → loose (rules_of an frame) x ≡ b → holds s.store.heap v (if b then unknown else map.entry x) ≡ true
    by_loose true e = unknown_all s.store.heap v
    by_loose false e = h.entries x c v e q

pub builtin_is : (h : Heap) (path : List ℕ) → holds h (Builtin path) (named_type (builtin path)) ≡ true
builtin_is h path = rw (tied_itself functions_total (builtin path)) refl

pub named_typed : (an : Analysis) (s : State) (frame : Frame) (map : TypeMap) (use_here : Option Use) (v : Value) → Held an frame map s → IsNamed frame s use_here v
    → holds s.store.heap v (builtin_or use_here (name_type (rules_of an frame) map use_here)) ≡ true
named_typed an s frame map (Some (UseLocal x)) v h q = local_typed an s frame map x q.0 v h q.1
named_typed an s frame map (Some (UseBuiltin path)) v h q = subst (λ (y : Value). holds s.store.heap y (named_type (builtin path)) ≡ true) (sym q) (builtin_is s.store.heap path)
named_typed an s frame map (Some UseLibrary) v h q = subst (λ (y : Value). holds s.store.heap y table_type ≡ true) (sym q.1) refl
named_typed an s frame map (Some UseGlobal) v h q = unknown_all s.store.heap v
named_typed an s frame map None v h q = absurd q

-- a local that is always a builtin holds it
pub named_fixed : (an : Analysis) (w : World) (s : State) (frame : Frame) (use_here : Option Use) (v : Value) (path : List ℕ) → Fine an w s → Runs an w s frame
    → IsNamed frame s use_here v → fixed_use (rules_of an frame) use_here ≡ Some path → v ≡ Builtin path
named_fixed an w s frame (Some (UseLocal x)) v path f r q e =
    let o : HasOwner an w frame.activation x q.0 = bound_well an w frame.activation x q.0 s.store.bindings f.bound q.1.0 in
    f.fixed q.0 o.0 path v o.1
    (ap (λ (m : ℕ). (an.rules m).fixed o.0.local) (same_some o.0.module_at frame.module_at (slice_get w.modules frame.activation) o.3 r.module_is)
    ∙ (ap (λ (y : ℕ). (rules_of an frame).fixed y) o.2 ∙ e)) q.1.1
named_fixed an w s frame (Some (UseBuiltin other)) v path f r q e = q ∙ ap Builtin (same other path e)
  where
    same : (p o : List ℕ) → Some p ≡ Some o → p ≡ o
    same p o k = cc
named_fixed an w s frame (Some UseLibrary) v path f r q e = cc
named_fixed an w s frame (Some UseGlobal) v path f r q e = cc
named_fixed an w s frame None v path f r q e = cc

pub named_local : (frame : Frame) (s : State) (use_here : Option Use) (v : Value) (x : ℕ) → IsNamed frame s use_here v → local_of use_here ≡ Some x → (c : ℕ) × Reads frame s x c v
named_local frame s (Some (UseLocal y)) v x q e = subst (λ (z : ℕ). (c : ℕ) × Reads frame s z c v) (same y x e) q
  where
    same : (p o : ℕ) → Some p ≡ Some o → p ≡ o
    same p o k = cc
named_local frame s (Some (UseBuiltin other)) v x q e = cc
named_local frame s (Some UseLibrary) v x q e = cc
named_local frame s (Some UseGlobal) v x q e = cc
named_local frame s None v x q e = cc

truth_of : (v : Value) → is_true v ≡ not (is_falsy v)
truth_of Nil = refl
truth_of (Truth true) = refl
truth_of (Truth false) = refl
truth_of (Num text) = refl
truth_of (Str bytes) = refl
truth_of (Tab address) = refl
truth_of (Lit home function cells) = refl
truth_of (Builtin path) = refl
truth_of (Other number) = refl

-- a value is truthy where it counts as true, and else falsy
pub by_truth : (h : Heap) (v : Value) (b : Bool) → is_true v ≡ b → holds h v (if b then truthy else falsy) ≡ true
by_truth h v true e = truthy_holds h v ∙ (sym (truth_of v) ∙ e)
by_truth h v false e = falsy_holds h v ∙ back (is_falsy v) (sym (truth_of v) ∙ e)
  where
    back : (b : Bool) → not b ≡ false → b ≡ true
    back true k = refl
    back false k = cc

-- a bare name's guard
pub named_guard : (an : Analysis) (frame : Frame) (s : State) (use_here : Option Use) (v : Value) (x : ℕ) → IsNamed frame s use_here v
    → (name_says (is_true v) x (firm_only (rules_of an frame) (local_of use_here)) ≡ unknown)
    ⊎ Shows frame s x (name_says (is_true v) x (firm_only (rules_of an frame) (local_of use_here)))
named_guard an frame s (Some (UseLocal y)) v x q = by_loose (loose (rules_of an frame) y)
  where
    by_local : (b : Bool) → (y == x) ≡ b → ((if b then (if is_true v then truthy else falsy) else unknown) ≡ unknown)
        ⊎ Shows frame s x (if b then (if is_true v then truthy else falsy) else unknown)
    by_local true e = inr (q.0, v, subst (λ (z : ℕ). Reads frame s z q.0 v) (eqb-true y x e) q.1, by_truth s.store.heap v (is_true v) refl)
    by_local false e = inl refl

    by_loose : (b : Bool) → (name_says (is_true v) x (if b then None else Some y) ≡ unknown) ⊎ Shows frame s x (name_says (is_true v) x (if b then None else Some y))
    by_loose true = inl refl
    by_loose false = by_local (y == x) refl
named_guard an frame s (Some (UseBuiltin other)) v x q = inl refl
named_guard an frame s (Some UseLibrary) v x q = inl refl
named_guard an frame s (Some UseGlobal) v x q = inl refl
named_guard an frame s None v x q = inl refl

-- ---- backward: the context of a name

-- what is in the context's entry is the local's, and in the set
only_in : (rules : Rules) (x y : ℕ) (type : Term) (h : Heap) (v : Value) → holds h v (only_for rules x type y) ≡ true → (y ≡ x) × (holds h v type ≡ true)
only_in rules x y type h v e = by_local (y == x) refl e
  where
    none_holds : holds h v never ≡ true → ⊥
    none_holds k = clash (holds h v never) k (never_none h v)
      where
        clash : (b : Bool) → b ≡ true → b ≡ false → ⊥
        clash b p q = cc

    by_loose : (b : Bool) → holds h v (if b then never else cut_down type) ≡ true → holds h v type ≡ true
    by_loose true k = absurd (none_holds k)
    by_loose false k = cut_down_below h v type k

    by_local : (b : Bool) → (y == x) ≡ b → holds h v (if b then (if loose rules x then never else cut_down type) else never) ≡ true → (y ≡ x) × (holds h v type ≡ true)
    by_local true p k = (eqb-true y x p, by_loose (loose rules x) k)
    by_local false p k = absurd (none_holds k)

-- the value that a name gives is in each set of which its context was violated
pub named_context : (an : Analysis) (s : State) (frame : Frame) (use_here : Option Use) (v : Value) (type : Term) → IsNamed frame s use_here v
    → Violated an frame (unless_builtin use_here (name_context (rules_of an frame) (local_of use_here) type)) s → holds s.store.heap v type ≡ true
named_context an s frame (Some (UseLocal x)) v type q h =
    let p : (h.0 ≡ x) × (holds s.store.heap h.2 type ≡ true) = only_in (rules_of an frame) x h.0 type s.store.heap h.2 h.5 in
    subst (λ (u : Value). holds s.store.heap u type ≡ true)
    (same_read (subst (λ (y : ℕ). Reads frame s y h.1 h.2) p.0 h.4)) p.1
  where
    same_cell_value : (c d : ℕ) (u : Value) → cell_of s.store.bindings frame.activation x ≡ Some c → cell_of s.store.bindings frame.activation x ≡ Some d
        → slice_get s.store.cells c ≡ Some u → slice_get s.store.cells d ≡ Some v → u ≡ v
    same_cell_value c d u a b k l = by_cell (same_some c d (cell_of s.store.bindings frame.activation x) a b)
      where
        same_value_at : (o : Option Value) → o ≡ Some u → o ≡ Some v → u ≡ v
        same_value_at o m n = cc

        by_cell : c ≡ d → u ≡ v
        by_cell e = same_value_at (slice_get s.store.cells c) k (subst (λ (i : ℕ). slice_get s.store.cells i ≡ Some v) (sym e) l)

    same_read : Reads frame s x h.1 h.2 → h.2 ≡ v
    same_read g = same_cell_value h.1 q.0 h.2 g.0 q.1.0 g.1 q.1.1
named_context an s frame (Some (UseBuiltin path)) v type q h = absurd (never_in (holds s.store.heap h.2 never) h.5 (never_none s.store.heap h.2))
  where
    never_in : (b : Bool) → b ≡ true → b ≡ false → ⊥
    never_in b p q = cc
named_context an s frame (Some UseLibrary) v type q h = absurd (never_in (holds s.store.heap h.2 never) h.5 (never_none s.store.heap h.2))
  where
    never_in : (b : Bool) → b ≡ true → b ≡ false → ⊥
    never_in b p q = cc
named_context an s frame (Some UseGlobal) v type q h = absurd (never_in (holds s.store.heap h.2 never) h.5 (never_none s.store.heap h.2))
  where
    never_in : (b : Bool) → b ≡ true → b ≡ false → ⊥
    never_in b p q = cc
named_context an s frame None v type q h = absurd q
