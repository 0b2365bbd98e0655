-- Calls of builtins and of values of no other kind, forward.
use Rattle.std.proofs.Common.{◌≡◌, ℕ, suc, Bool, true, false, not, ◌&&◌, if◌then◌else◌, List, [], ◌∷◌, length, Option, Some, None, refl, sym, ◌∙◌, ap, subst, codes}
use Rattle.std.specs.List.{AllByRecursion, find}
use Rattle.std.specs.Option.{option_map_or}
use Rattle.std.specs.Str.{bytes_eq}
use Rattle.std.proofs.lemmas.Slice.Eq.{bytes_eq-Decides}
use Rattle.luau_values.specs.Value.{Value, Nil, Truth, Num, Str, Tab, Lit, Builtin, Other}
use Rattle.luau_values.specs.Heap.{is_frozen, field_of, with_frozen}
use Rattle.luau_values.specs.Grows.{Grows}
use Rattle.luau_values.specs.Stands.{Stands}
use Rattle.luau_values.proofs.Public.{freeze_freezes, freeze_reads, stands_later}
use Rattle.luau_run.specs.Signature.{Signature, declaration, takes, may_give}
use Rattle.luau_run.specs.Machine.{Answer, One, Closure, Store, State, Ran, Gave, Failed, Spent, Fits, ◌>>=◌, go_on, give, fail, spend, look, ask, freeze_table}
use Rattle.luau_run.specs.Answers.{is_closure, fits_if, ForResults, Free, other_kind, is_other_kind, yes_or_fail}
use Rattle.luau_run.specs.Layer.{Layer, first}
use Rattle.luau_run.specs.Calls.{given_by, type_name, frozen, results_or_none, freedom_of, free_builtin, meaning, declared_call, call_builtin, call_closure, call}
use Rattle.luau_run.specs.Run.{layer_of, end_of}
use Rattle.luau_run.proofs.FreezeFacts.{quiet_grows}
use Rattle.type_normal.specs.Failing.{uncallable}
use Rattle.type_normal.proofs.Public.{kinds_hold}
use Rattle.run_frame.specs.Analysis.{Analysis}
use Rattle.run_frame.proofs.World.{World}
use Rattle.run_frame.proofs.Kept.{Doer, Kept, nobody}
use Rattle.run_frame.proofs.Fine.{Fine}
use Rattle.run_frame.proofs.Parts.{Ends, Same, Says, ends_so, ends_then, ends_give, ends_fail, ends_ask}
use Rattle.run_frame.proofs.Tables.{with_heap, ends_freeze}
use Rattle.run_frame.proofs.Layers.{is_quiet, IsKindName, Answers}
use Rattle.run_frame.proofs.Forms.{first_stands}
use Rattle.reports_certain.proofs.BuiltinActs.{ActsGive, ActsEnd}

fits_so : {A : Type 0} (b : Bool) (x y : A) → fits_if b x ≡ Fits y → (b ≡ true) × (x ≡ y)
fits_so true x y e = (refl, cc)
fits_so false x y e = cc

-- ---- closures

-- how a call of a closure ends on a layer
abbrev pub ClosuresAnswer : Analysis → Layer → Type 0
ClosuresAnswer an l = (w : World) (s : State) (home function : ℕ) (cells : List (ℕ × ℕ)) (args : List Value) → Fine an w s → AllByRecursion (Stands s.store.heap) args
    → Ends an (nobody false) w s (Answers an (Lit home function cells) args s) (call_closure an.program l cells (find (λ (c : Closure). is_closure home function cells c.value) s.store.closures) args s)

-- ---- builtins

-- results that are in the declaration
abbrev GivenBy : Signature → List Value → State → List Value → State → Type 0
GivenBy g results s vs t = (vs ≡ results) × (t.store ≡ s.store) × (may_give g s.store.heap results ≡ true)

given_ends : (an : Analysis) (who : Doer) (w : World) (s : State) (g : Signature) (results : List Value) → Fine an w s → Ends an who w s (GivenBy g results s) (given_by g results s)
unfolding ◌>>=◌ look fail
given_ends an who w s g results f = by_test (may_give g s.store.heap results) refl
  where
    by_test : (b : Bool) → may_give g s.store.heap results ≡ b → Ends an who w s (GivenBy g results s) ((if b then give results else fail) s)
    by_test true e = ends_give an who w s (GivenBy g results s) results f (refl, refl, e)
    by_test false e = ends_fail an who w s s (GivenBy g results s) f (refl, refl)

-- the name of a kind
abbrev NameGives : Value → State → Value → State → Type 0
NameGives v s name t = Same s t × Stands s.store.heap name × IsKindName v name

other_says : (number : ℕ) (answer : Answer) (name : Value) → other_kind answer ≡ Fits name → (bytes : List ℕ) × (name ≡ Str bytes) × (is_other_kind bytes ≡ true)
other_says number (One (Str bytes)) name e =
    let p : (is_other_kind bytes ≡ true) × (Str bytes ≡ name) = fits_so (is_other_kind bytes) (Str bytes) name e in (bytes, sym p.1, p.0)
other_says number _ name e = cc

type_ends : (an : Analysis) (who : Doer) (w : World) (s : State) (v : Value) → Fine an w s → Ends an who w s (NameGives v s) (type_name v s)
type_ends an who w s Nil f = ends_give an who w s (NameGives Nil s) (Str (codes "nil")) f ((refl, refl), tt, refl)
type_ends an who w s (Truth truth) f = ends_give an who w s (NameGives (Truth truth) s) (Str (codes "boolean")) f ((refl, refl), tt, refl)
type_ends an who w s (Num text) f = ends_give an who w s (NameGives (Num text) s) (Str (codes "number")) f ((refl, refl), tt, refl)
type_ends an who w s (Str bytes) f = ends_give an who w s (NameGives (Str bytes) s) (Str (codes "string")) f ((refl, refl), tt, refl)
type_ends an who w s (Tab address) f = ends_give an who w s (NameGives (Tab address) s) (Str (codes "table")) f ((refl, refl), tt, refl)
type_ends an who w s (Lit home function cells) f = ends_give an who w s (NameGives (Lit home function cells) s) (Str (codes "function")) f ((refl, refl), tt, refl)
type_ends an who w s (Builtin path) f = ends_give an who w s (NameGives (Builtin path) s) (Str (codes "function")) f ((refl, refl), tt, refl)
type_ends an who w s (Other number) f = ends_so an who w s (λ x t. Same s t × Says other_kind x) (NameGives (Other number) s) (ask other_kind s)
    (λ x t v e g k p. by_text x t p.0 (other_says number p.1.0 x p.1.1)) (ends_ask an who w s other_kind f)
  where
    by_text : (x : Value) (t : State) → Same s t → (bytes : List ℕ) × (x ≡ Str bytes) × (is_other_kind bytes ≡ true) → NameGives (Other number) s x t
    by_text x t same (bytes, is, kind) = (same, subst (λ (y : Value). Stands s.store.heap y) (sym is) (tt {0}), (bytes, is, kind))

-- a frozen table
abbrev FrozenGives : Value → State → Value → State → Type 0
FrozenGives v s x t = (a : ℕ) × (v ≡ Tab a) × (x ≡ Tab a) × Stands t.store.heap x × (is_frozen t.store.heap a ≡ true)
    × ((name : List ℕ) → field_of t.store.heap a name ≡ field_of s.store.heap a name)

frozen_ends : (an : Analysis) (who : Doer) (w : World) (s : State) (v : Value) → Fine an w s → Stands s.store.heap v → Ends an who w s (FrozenGives v s) (frozen v s)
unfolding ◌>>=◌ look fail
frozen_ends an who w s (Tab a) f there = by_mark (is_frozen s.store.heap a) refl
  where
    by_mark : (b : Bool) → is_frozen s.store.heap a ≡ b → Ends an who w s (FrozenGives (Tab a) s) (go_on ((if b then ask yes_or_fail else freeze_table a) s) (λ x. give (Tab a)))
    by_mark true e = ends_then an who w s (λ x t. Same s t × Says yes_or_fail x) (FrozenGives (Tab a) s) (ask yes_or_fail s) (λ x. give (Tab a)) (ends_ask an who w s yes_or_fail f)
        (λ x t z g k p. ends_give an who z t (FrozenGives (Tab a) s) (Tab a) g (
          a,
          refl,
          refl,
          subst (λ (y : Store). Stands y.heap (Tab a)) (sym p.0.0) there,
          subst (λ (y : Store). is_frozen y.heap a ≡ true) (sym p.0.0) e,
          λ name. ap (λ (y : Store). field_of y.heap a name) p.0.0,
        ))
    by_mark false e = ends_then an who w s (λ x t. t ≡ with_heap (with_frozen a s.store.heap) s) (FrozenGives (Tab a) s) (freeze_table a s) (λ x. give (Tab a)) (ends_freeze an who w s a f)
        (λ x t z g k p. ends_give an who z t (FrozenGives (Tab a) s) (Tab a) g (
          a,
          refl,
          refl,
          stands_later s.store.heap t.store.heap (Tab a) k.heap there,
          ap (λ (y : State). is_frozen y.store.heap a) p ∙ freeze_freezes s.store.heap a there,
          λ name. ap (λ (y : State). field_of y.store.heap a name) p ∙ freeze_reads s.store.heap a a name,
        ))
frozen_ends an who w s Nil f there = ends_fail an who w s s (FrozenGives Nil s) f (refl, refl)
frozen_ends an who w s (Truth truth) f there = ends_fail an who w s s (FrozenGives (Truth truth) s) f (refl, refl)
frozen_ends an who w s (Num text) f there = ends_fail an who w s s (FrozenGives (Num text) s) f (refl, refl)
frozen_ends an who w s (Str bytes) f there = ends_fail an who w s s (FrozenGives (Str bytes) s) f (refl, refl)
frozen_ends an who w s (Lit home function cells) f there = ends_fail an who w s s (FrozenGives (Lit home function cells) s) f (refl, refl)
frozen_ends an who w s (Builtin path) f there = ends_fail an who w s s (FrozenGives (Builtin path) s) f (refl, refl)
frozen_ends an who w s (Other number) f there = ends_fail an who w s s (FrozenGives (Other number) s) f (refl, refl)

-- ---- what a builtin answers

-- what holds of a builtin's answer, whatever it is called by: it stands, is in the declaration; and `type` and `table.freeze` give
-- what they should
record Answered (g : Signature) (path : List ℕ) (args : List Value) (s : State) (vs : List Value) (t : State) : Type 0 where
  stand : AllByRecursion (Stands t.store.heap) vs
  given : may_give g t.store.heap vs ≡ true
  kind : path ≡ codes "type" → IsKindName (first args) (first vs)
  frozen : path ≡ codes "table.freeze" → (a : ℕ) × (first args ≡ Tab a) × (vs ≡ Tab a ∷ []) × (is_frozen t.store.heap a ≡ true)
      × ((name : List ℕ) → field_of t.store.heap a name ≡ field_of s.store.heap a name)

unlike : (path name : List ℕ) (P : Type 0) → bytes_eq path name ≡ false → path ≡ name → P
unlike path name P e q = absurd (clash (bytes_eq path name) ((bytes_eq-Decides path name).1 q) e)
  where
    clash : (b : Bool) → b ≡ true → b ≡ false → ⊥
    clash b p n = cc

apart : (path : List ℕ) (P : Type 0) → path ≡ codes "type" → path ≡ codes "table.freeze" → P
apart path P p q = absurd (differ (sym p ∙ q))
  where
    differ : codes "type" ≡ codes "table.freeze" → ⊥
    differ e = cc

module _ (an : Analysis) (l : Layer) (acts_end : ActsEnd an l) where
  type_answers : (w : World) (s : State) (g : Signature) (path : List ℕ) (args : List Value) → path ≡ codes "type" → Fine an w s
      → Ends an (nobody false) w s (Answered g path args s) (go_on (type_name (first args) s) (λ v. given_by g (v ∷ [])))
  type_answers w s g path args is f =
      ends_then an (nobody false) w s (NameGives (first args) s) (Answered g path args s) (type_name (first args) s) (λ v. given_by g (v ∷ []))
      (type_ends an (nobody false) w s (first args) f)
      (λ v t z c k p. ends_so an (nobody false) z t (GivenBy g (v ∷ []) t) (Answered g path args s) (given_by g (v ∷ []) t)
      (λ vs u y e d j q. subst (λ (xs : List Value). Answered g path args s xs u) (sym q.0) (record {
        stand = (subst (λ (x : Store). Stands x.heap v) (sym (q.1 ∙ p.0.0)) p.1, tt);
        given = subst (λ (x : Store). may_give g x.heap (v ∷ []) ≡ true) (sym q.1) q.2;
        kind = λ n. p.2;
        frozen = λ n. apart path _ is n;
      })) (given_ends an (nobody false) z t g (v ∷ []) c))

  freeze_answers : (w : World) (s : State) (g : Signature) (path : List ℕ) (args : List Value) → path ≡ codes "table.freeze" → Fine an w s → AllByRecursion (Stands s.store.heap) args
      → Ends an (nobody false) w s (Answered g path args s) (go_on (frozen (first args) s) (λ v. given_by g (v ∷ [])))
  freeze_answers w s g path args is f there =
      ends_then an (nobody false) w s (FrozenGives (first args) s) (Answered g path args s) (frozen (first args) s) (λ v. given_by g (v ∷ []))
      (frozen_ends an (nobody false) w s (first args) f (first_stands s.store.heap args there))
      (λ v t z c k p. ends_so an (nobody false) z t (GivenBy g (v ∷ []) t) (Answered g path args s) (given_by g (v ∷ []) t)
      (λ vs u y e d j q. subst (λ (xs : List Value). Answered g path args s xs u) (sym q.0) (record {
        stand = (subst (λ (x : Store). Stands x.heap v) (sym q.1) p.3, tt);
        given = subst (λ (x : Store). may_give g x.heap (v ∷ []) ≡ true) (sym q.1) q.2;
        kind = λ n. apart path _ n is;
        frozen = λ n. (
          p.0,
          p.1,
          ap (λ (x : Value). x ∷ []) p.2,
          ap (λ (x : Store). is_frozen x.heap p.0) q.1 ∙ p.4,
          λ name. ap (λ (x : Store). field_of x.heap p.0 name) q.1 ∙ p.5 name,
        );
      })) (given_ends an (nobody false) z t g (v ∷ []) c))

  free_answers : (w : World) (s : State) (g : Signature) (path : List ℕ) (args : List Value) → bytes_eq path (codes "type") ≡ false → bytes_eq path (codes "table.freeze") ≡ false
      → Fine an w s → Ends an (nobody false) w s (Answered g path args s) (free_builtin l g s)
  unfolding ◌>>=◌ look
  free_answers w s g path args not_type not_freeze f =
      ends_then an (nobody false) w s ActsGive (Answered g path args s) (l.acts (freedom_of g (length s.store.heap)) ForResults s) (λ results. given_by g (results_or_none results))
      (acts_end w s (freedom_of g (length s.store.heap)) ForResults f)
      (λ results t z c k p. ends_so an (nobody false) z t (GivenBy g (results_or_none results) t) (Answered g path args s) (given_by g (results_or_none results) t)
      (λ vs u y e d j q. record {
        stand = subst (λ (xs : List Value). AllByRecursion (Stands u.store.heap) xs) (sym q.0)
            (subst (λ (x : Store). AllByRecursion (Stands x.heap) (results_or_none results)) (sym q.1) (results_stand results t p));
        given = subst (λ (xs : List Value). may_give g u.store.heap xs ≡ true) (sym q.0) (subst (λ (x : Store). may_give g x.heap (results_or_none results) ≡ true) (sym q.1) q.2);
        kind = λ n. unlike path (codes "type") _ not_type n;
        frozen = λ n. unlike path (codes "table.freeze") _ not_freeze n;
      }) (given_ends an (nobody false) z t g (results_or_none results) c))
    where
      results_stand : (o : Option (List Value)) (t : State) → ActsGive o t → AllByRecursion (Stands t.store.heap) (results_or_none o)
      results_stand None t h = tt
      results_stand (Some vs) t h = h vs refl

  meaning_ends : (w : World) (s : State) (g : Signature) (path : List ℕ) (args : List Value) → Fine an w s → AllByRecursion (Stands s.store.heap) args
      → Ends an (nobody false) w s (Answered g path args s) (meaning l g path args s)
  unfolding ◌>>=◌
  meaning_ends w s g path args f there = by_type (bytes_eq path (codes "type")) refl
    where
      by_freeze : (b : Bool) → bytes_eq path (codes "table.freeze") ≡ b → bytes_eq path (codes "type") ≡ false
          → Ends an (nobody false) w s (Answered g path args s) ((if b then ◌>>=◌ (frozen (first args)) (λ v. given_by g (v ∷ [])) else free_builtin l g) s)
      by_freeze true e n = freeze_answers w s g path args ((bytes_eq-Decides path (codes "table.freeze")).0 e) f there
      by_freeze false e n = free_answers w s g path args n e f

      by_type : (b : Bool) → bytes_eq path (codes "type") ≡ b
          → Ends an (nobody false) w s (Answered g path args s) ((if b then ◌>>=◌ (type_name (first args)) (λ v. given_by g (v ∷ []))
          else (if bytes_eq path (codes "table.freeze") then ◌>>=◌ (frozen (first args)) (λ v. given_by g (v ∷ [])) else free_builtin l g)) s)
      by_type true e = type_answers w s g path args ((bytes_eq-Decides path (codes "type")).0 e) f
      by_type false e = by_freeze (bytes_eq path (codes "table.freeze")) refl e

  same_path : (path other : List ℕ) → Builtin path ≡ Builtin other → path ≡ other
  same_path path other e = cc

  -- a builtin that took its arguments answers as it should
  builtin_answers : (path : List ℕ) (args : List Value) (s : State) (vs : List Value) (t : State) (g : Signature) → declaration an.program.builtins path ≡ Some g
      → (g.checked ≡ true → takes g s.store.heap args ≡ true) → Answered g path args s vs t → Answers an (Builtin path) args s vs t
  builtin_answers path args s vs t g is taken answered = record {
    stand = answered.stand;
    callable = kinds_hold s.store.heap (Builtin path) uncallable;
    taken = λ other h e d c. subst (λ (x : Signature). takes x s.store.heap args ≡ true) (same other h e d) (taken (subst (λ (x : Signature). x.checked ≡ true) (sym (same other h e d)) c));
    given = λ other h e d. subst (λ (x : Signature). may_give x t.store.heap vs ≡ true) (same other h e d) answered.given;
    kind = λ e. answered.kind (same_path path (codes "type") e);
    frozen = λ e. answered.frozen (same_path path (codes "table.freeze") e);
  }
    where
      some_same : (o : Option Signature) (x y : Signature) → o ≡ Some x → o ≡ Some y → x ≡ y
      some_same o x y p q = cc

      same : (other : List ℕ) (h : Signature) → Builtin path ≡ Builtin other → declaration an.program.builtins other ≡ Some h → g ≡ h
      same other h e d = some_same (declaration an.program.builtins path) g h is (ap (λ (p : List ℕ). declaration an.program.builtins p) (same_path path other e) ∙ d)

  declared_ends : (w : World) (s : State) (path : List ℕ) (args : List Value) (o : Option Signature) → declaration an.program.builtins path ≡ o → Fine an w s → AllByRecursion (Stands s.store.heap) args
      → Ends an (nobody false) w s (Answers an (Builtin path) args s) (declared_call l o path args s)
  unfolding ◌>>=◌ look fail spend
  declared_ends w s path args None is f there = f.stays
  declared_ends w s path args (Some g) is f there = by_test (g.checked && not (takes g s.store.heap args)) refl
    where
      taken : (a b : Bool) → a && not b ≡ false → a ≡ true → b ≡ true
      taken true true e k = refl
      taken true false e k = cc
      taken false b e k = cc

      by_test : (b : Bool) → g.checked && not (takes g s.store.heap args) ≡ b → Ends an (nobody false) w s (Answers an (Builtin path) args s) ((if b then fail else meaning l g path args) s)
      by_test true e = ends_fail an (nobody false) w s s (Answers an (Builtin path) args s) f (refl, refl)
      by_test false e = ends_so an (nobody false) w s (Answered g path args s) (Answers an (Builtin path) args s) (meaning l g path args s)
          (λ vs t z q d k p. builtin_answers path args s vs t g is (taken g.checked (takes g s.store.heap args) e) p) (meaning_ends w s g path args f there)

-- ---- calls

calm_kept : (an : Analysis) (w v : World) (s t : State) (b : Bool) → (b ≡ true → Grows s.store.heap t.store.heap) → Kept an (nobody false) w s v t → Kept an (nobody b) w s v t
calm_kept an w v s t b grows k = record {
  owners = k.owners;
  modules = k.modules;
  cells = k.cells;
  new = k.new;
  bindings = k.bindings;
  whose = k.whose;
  heap = k.heap;
  calm = grows;
  counts = k.counts;
  begun = k.begun;
}

-- a part that changed no table but by freezing is calm
calm_ends : (an : Analysis) (w : World) (s : State) {A : Type 0} (P : A → State → Type 0) (b : Bool) (r : Ran A) → (b ≡ true → Grows s.store.heap (end_of r).store.heap)
    → Ends an (nobody false) w s P r → Ends an (nobody b) w s P r
calm_ends an w s P b (Gave x t) grows h = (h.0, h.1, calm_kept an w h.0 s t b grows h.2, h.3)
calm_ends an w s P b (Failed t) grows h = (h.0, h.1, calm_kept an w h.0 s t b grows h.2)
calm_ends an w s P b (Spent t) grows h = h

-- what can't be called fails; a value of no other kind answers with what stands
other_answers : (an : Analysis) (number : ℕ) (args vs : List Value) (s t : State) → AllByRecursion (Stands t.store.heap) vs → Answers an (Other number) args s vs t
other_answers an number args vs s t there = record {
  stand = there;
  callable = refl;
  taken = λ path g e d c. cc;
  given = λ path g e d. cc;
  kind = λ e. cc;
  frozen = λ e. cc;
}

pub call_forward : (an : Analysis) (depth : ℕ) → ClosuresAnswer an (layer_of an.program depth) → ActsEnd an (layer_of an.program depth) → (w : World) (s : State) (callee : Value) (args : List Value) → Fine an w s
    → AllByRecursion (Stands s.store.heap) args → Ends an (nobody (is_quiet an.program callee)) w s (Answers an callee args s) (call an.program (layer_of an.program depth) callee args s)
unfolding call call_builtin ◌>>=◌ look fail spend
call_forward an depth closures acts_end w s (Lit home function cells) args f there = closures w s home function cells args f there
call_forward an depth closures acts_end w s (Builtin path) args f there =
    calm_ends an w s (Answers an (Builtin path) args s) (is_quiet an.program (Builtin path)) (declared_call (layer_of an.program depth) (declaration an.program.builtins path) path args s)
    (λ q. grows (declaration an.program.builtins path) refl q)
    (declared_ends an (layer_of an.program depth) acts_end w s path args (declaration an.program.builtins path) refl f there)
  where
    grows : (o : Option Signature) → declaration an.program.builtins path ≡ o → option_map_or (λ (g : Signature). g.quiet) o false ≡ true
        → Grows s.store.heap (end_of (declared_call (layer_of an.program depth) (declaration an.program.builtins path) path args s)).store.heap
    grows None e q = cc
    grows (Some g) e q = quiet_grows an.program (suc depth) path g args s e q
call_forward an depth closures acts_end w s (Other number) args f there =
    ends_then an (nobody false) w s ActsGive (Answers an (Other number) args s) ((layer_of an.program depth).acts Free ForResults s) (λ results. give (results_or_none results))
    (acts_end w s Free ForResults f)
    (λ results t z g k p. ends_give an (nobody false) z t (Answers an (Other number) args s) (results_or_none results) g (other_answers an number args (results_or_none results) s t (results_stand results t p)))
  where
    results_stand : (o : Option (List Value)) (t : State) → ((vs : List Value) → o ≡ Some vs → AllByRecursion (Stands t.store.heap) vs) → AllByRecursion (Stands t.store.heap) (results_or_none o)
    results_stand None t h = tt
    results_stand (Some vs) t h = h vs refl
call_forward an depth closures acts_end w s Nil args f there = ends_fail an (nobody false) w s s (Answers an Nil args s) f (refl, refl)
call_forward an depth closures acts_end w s (Truth truth) args f there = ends_fail an (nobody false) w s s (Answers an (Truth truth) args s) f (refl, refl)
call_forward an depth closures acts_end w s (Num text) args f there = ends_fail an (nobody false) w s s (Answers an (Num text) args s) f (refl, refl)
call_forward an depth closures acts_end w s (Str bytes) args f there = ends_fail an (nobody false) w s s (Answers an (Str bytes) args s) f (refl, refl)
call_forward an depth closures acts_end w s (Tab address) args f there = ends_fail an (nobody false) w s s (Answers an (Tab address) args s) f (refl, refl)
