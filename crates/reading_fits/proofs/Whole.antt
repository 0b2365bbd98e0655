-- The rules of a module say all that is found in it.
use Rattle.std.proofs.Common.{◌≡◌, ℕ, zero, suc, ◌+◌, ◌==◌, Bool, true, false, not, ◌||◌, List, [], ◌∷◌, map, refl, sym, ap, ◌∙◌, subst, eq-eqb, eqb-true, arith, inl, inr}
use Rattle.std.specs.Prelude.{Option, Some, None, option_map, if◌then◌else◌, slice_get}
use Rattle.std.specs.Option.{option_map_or, option_and_then}
use Rattle.std.specs.List.{filter_map}
use Rattle.luau_tree.specs.declared.position.Span.{Span}
use Rattle.luau_tree.specs.declared.names.ExprId.{ExprId}
use Rattle.luau_tree.specs.Tree.{Block}
use Rattle.luau_scope.specs.declared.refusal.Refusal.{Refusal}
use Rattle.luau_scope.specs.declared.reading.Use.{Use}
use Rattle.luau_scope.specs.declared.reading.Use.TheVariants.{Local, Builtin, Library, Global}
use Rattle.luau_scope.specs.declared.reading.LocalInfo.{LocalInfo}
use Rattle.luau_scope.specs.Found.{Found, Declares, Means, Captures, Assigns, RequiresModule, Continues, Refuses}
use Rattle.luau_scope.specs.Finds.{found_in}
use Rattle.luau_scope.specs.Refusals.{Refused, earliest, earlier_of, a_refusal, refusals, refusal_of}
use Rattle.luau_scope.specs.Locals.{an_assigned, a_captured, a_use, locals_from, locals_of, uses_of, use_at, given_builtin, path_of}
use Rattle.luau_scope.specs.Locals as scope
use Rattle.luau_scope.proofs.InOrder.{uses_are_of_expressions}
use Rattle.luau_run.specs.ReadModule.{UseBuiltin}
use Rattle.luau_run.specs.ReadFolder.{is_among, are_distinct}
use Rattle.type_arena.specs.Term.{Term}
use Rattle.type_decl.specs.Signatures.{Signature}
use Rattle.module_reading.specs.Names.{meaning_of, declared_from}
use Rattle.module_reading.specs.ReadRules.{rules_of}
use Rattle.tree_readings.specs.Apart.{StandsApart}
use Rattle.module_reading.proofs.Lists.{Has, and_parts, among_has, not_true, fewer_distinct}
use Rattle.tree_readings.proofs.Declared.{same_starts}
use Rattle.reading_fits.proofs.Told.{Ground, IsKnown, IsGiven, IsLocal, Each, Told}

-- the rules of a module with its locals
abbrev pub ground_of : (paths : List (List ℕ)) → (home : ℕ) → Block → (leads : List ℕ → Option ℕ) → (table : List (List ℕ × Signature)) → (import : ℕ → Term) → Ground
ground_of paths home x leads table import = record { rules = rules_of paths home x leads table import; locals = locals_of paths x }

-- ---- locals

start_at : LocalInfo → ℕ
start_at l = l.declared.start

-- a local is found by where it is declared
own_place : (m : ℕ) (locals : List LocalInfo) (k : ℕ) (l : LocalInfo) → are_distinct (map (λ (i : LocalInfo). i.declared.start) locals) ≡ true → slice_get locals k ≡ Some l → declared_from m locals l.declared.start ≡ m + k
own_place m [] k l d e = cc
own_place m (i ∷ locals) zero l d e = by_test (i.declared.start == l.declared.start) (eq-eqb i.declared.start l.declared.start (ap (λ (j : LocalInfo). j.declared.start) (let z : i ≡ l = cc in z)))
  where
    by_test : (b : Bool) → b ≡ true → (if b then m else declared_from (suc m) locals l.declared.start) ≡ m + zero
    by_test true q = omega arith
    by_test false q = cc
own_place m (i ∷ locals) (suc k) l d e =
    by_test (i.declared.start == l.declared.start) refl (own_place (suc m) locals k l (and_parts (not (is_among i.declared.start (map (λ (j : LocalInfo). j.declared.start) locals))) (are_distinct (map (λ (j : LocalInfo). j.declared.start) locals)) d).1 e)
  where
    there : (ls : List LocalInfo) (n : ℕ) → slice_get ls n ≡ Some l → Has (map (λ (j : LocalInfo). j.declared.start) ls) l.declared.start
    there [] n q = cc
    there (j ∷ ls) zero q = inl (ap (λ (j : LocalInfo). j.declared.start) (let z : j ≡ l = cc in z))
    there (j ∷ ls) (suc n) q = inr (there ls n q)

    clash : i.declared.start ≡ l.declared.start → ⊥
    clash q =
        let t : is_among i.declared.start (map (λ (j : LocalInfo). j.declared.start) locals) ≡ true =
        among_has i.declared.start (map (λ (j : LocalInfo). j.declared.start) locals) (subst (λ (s : ℕ). Has (map (λ (j : LocalInfo). j.declared.start) locals) s) (sym q) (there locals k e)) in
        let f : is_among i.declared.start (map (λ (j : LocalInfo). j.declared.start) locals) ≡ false =
        not_true (is_among i.declared.start (map (λ (j : LocalInfo). j.declared.start) locals)) (and_parts (not (is_among i.declared.start (map (λ (j : LocalInfo). j.declared.start) locals))) (are_distinct (map (λ (j : LocalInfo). j.declared.start) locals)) d).0 in
        cc

    by_test : (b : Bool) → (i.declared.start == l.declared.start) ≡ b → declared_from (suc m) locals l.declared.start ≡ suc m + k → (if b then m else declared_from (suc m) locals l.declared.start) ≡ m + suc k
    by_test true q h = absurd (clash (eqb-true i.declared.start l.declared.start q))
    by_test false q h = h ∙ omega arith

-- what is said of the local with a number
marks_at : (gs cs : List ℕ) (n : ℕ) (f : List Found) (k : ℕ) (l : LocalInfo) → slice_get (locals_from gs cs n f) k ≡ Some l → (l.assigned ≡ scope.is_among (n + k) gs) × (l.captured ≡ scope.is_among (n + k) cs)
marks_at gs cs n [] k l e = cc
marks_at gs cs n (Declares name span function given ∷ f) zero l e = (
  sym (ap (λ (o : Option LocalInfo). option_map_or (λ (i : LocalInfo). i.assigned) o false) e) ∙ ap (λ (j : ℕ). scope.is_among j gs) (omega arith),
  sym (ap (λ (o : Option LocalInfo). option_map_or (λ (i : LocalInfo). i.captured) o false) e) ∙ ap (λ (j : ℕ). scope.is_among j cs) (omega arith),
)
marks_at gs cs n (Declares name span function given ∷ f) (suc k) l e =
    let r = marks_at gs cs (suc n) f k l e in
    (r.0 ∙ ap (λ (j : ℕ). scope.is_among j gs) (omega arith), r.1 ∙ ap (λ (j : ℕ). scope.is_among j cs) (omega arith))
marks_at gs cs n (Means at meaning ∷ f) k l e = marks_at gs cs n f k l e
marks_at gs cs n (Captures local ∷ f) k l e = marks_at gs cs n f k l e
marks_at gs cs n (Assigns local ∷ f) k l e = marks_at gs cs n f k l e
marks_at gs cs n (RequiresModule site ∷ f) k l e = marks_at gs cs n f k l e
marks_at gs cs n (Continues at before ∷ f) k l e = marks_at gs cs n f k l e
marks_at gs cs n (Refuses why at ∷ f) k l e = marks_at gs cs n f k l e

-- ---- uses

pub use_first : (uses : List (ExprId × Use)) (at : ExprId) (meaning : Use) → are_distinct (map (λ u. u.0.0) uses) ≡ true → Has uses (at, meaning) → use_at uses at ≡ Some meaning
use_first [] at meaning d h = absurd h
use_first (u ∷ uses) at meaning d h =
    by_test (u.0.0 == at.0) refl h (use_first uses at meaning (and_parts (not (is_among u.0.0 (map (λ u. u.0.0) uses))) (are_distinct (map (λ u. u.0.0) uses)) d).1)
  where
    number_of : (us : List (ExprId × Use)) → Has us (at, meaning) → Has (map (λ (w : ExprId × Use). w.0.0) us) at.0
    number_of [] k = k
    number_of (w ∷ us) (inl e) = inl (ap (λ (w : ExprId × Use). w.0.0) e)
    number_of (w ∷ us) (inr k) = inr (number_of us k)

    clash : u.0.0 ≡ at.0 → Has uses (at, meaning) → ⊥
    clash e k =
        let t : is_among u.0.0 (map (λ (w : ExprId × Use). w.0.0) uses) ≡ true = among_has u.0.0 (map (λ (w : ExprId × Use). w.0.0) uses) (subst (λ (n : ℕ). Has (map (λ (w : ExprId × Use). w.0.0) uses) n) (sym e) (number_of uses k)) in
        let f : is_among u.0.0 (map (λ (w : ExprId × Use). w.0.0) uses) ≡ false = not_true (is_among u.0.0 (map (λ (w : ExprId × Use). w.0.0) uses)) (and_parts (not (is_among u.0.0 (map (λ (w : ExprId × Use). w.0.0) uses))) (are_distinct (map (λ (w : ExprId × Use). w.0.0) uses)) d).0 in
        cc

    by_test : (b : Bool) → (u.0.0 == at.0) ≡ b → Has (u ∷ uses) (at, meaning) → (Has uses (at, meaning) → use_at uses at ≡ Some meaning) → (if b then Some u.1 else use_at uses at) ≡ Some meaning
    by_test true q (inl e) next = ap (λ (w : ExprId × Use). Some w.1) e
    by_test true q (inr k) next = absurd (clash (eqb-true u.0.0 at.0 q) k)
    by_test false q (inl e) next = absurd (let t : (u.0.0 == at.0) ≡ true = eq-eqb u.0.0 at.0 (ap (λ (w : ExprId × Use). w.0.0) e) in cc)
    by_test false q (inr k) next = next k

pub found_use : (f : List Found) (at : ExprId) (meaning : Use) → Has f (Means at meaning) → Has (filter_map a_use f) (at, meaning)
found_use [] at meaning h = h
found_use (Means i m ∷ f) at meaning (inl e) = inl (let p : i ≡ at = cc in let q : m ≡ meaning = cc in ap (λ (j : ExprId). (j, m)) p ∙ ap (λ (k : Use). (at, k)) q)
found_use (Means i m ∷ f) at meaning (inr h) = inr (found_use f at meaning h)
found_use (Declares name span function given ∷ f) at meaning (inl e) = cc
found_use (Declares name span function given ∷ f) at meaning (inr h) = found_use f at meaning h
found_use (Captures local ∷ f) at meaning (inl e) = cc
found_use (Captures local ∷ f) at meaning (inr h) = found_use f at meaning h
found_use (Assigns local ∷ f) at meaning (inl e) = cc
found_use (Assigns local ∷ f) at meaning (inr h) = found_use f at meaning h
found_use (RequiresModule site ∷ f) at meaning (inl e) = cc
found_use (RequiresModule site ∷ f) at meaning (inr h) = found_use f at meaning h
found_use (Continues place before ∷ f) at meaning (inl e) = cc
found_use (Continues place before ∷ f) at meaning (inr h) = found_use f at meaning h
found_use (Refuses why place ∷ f) at meaning (inl e) = cc
found_use (Refuses why place ∷ f) at meaning (inr h) = found_use f at meaning h

-- an item that a test of findings picks
picked : {A : Type 0} (pick : Found → Option A) (f : List Found) (one : Found) (a : A) → Has f one → pick one ≡ Some a → Has (filter_map pick f) a
picked pick [] one a h e = absurd h
picked {A = A} pick (g ∷ f) one a h e = by_pick (pick g) refl h (λ k. picked pick f one a k e)
  where
    by_pick : (o : Option A) → pick g ≡ o → Has (g ∷ f) one → (Has f one → Has (filter_map pick f) a) → Has (filter_map pick (g ∷ f)) a
    by_pick None q (inl k) next = absurd (let z : pick one ≡ None = subst (λ (x : Found). pick x ≡ None) k q in cc)
    by_pick None q (inr k) next = rw q (next k)
    by_pick (Some b) q (inl k) next = rw q (inl (let z : pick one ≡ Some b = subst (λ (x : Found). pick x ≡ Some b) k q in let y : Some b ≡ Some a = sym z ∙ e in cc))
    by_pick (Some b) q (inr k) next = rw q (inr (next k))

scope_among : (n : ℕ) (xs : List ℕ) → Has xs n → scope.is_among n xs ≡ true
scope_among n [] h = absurd h
scope_among n (x ∷ xs) (inl e) = ap (λ b. b || scope.is_among n xs) (eq-eqb x n e)
scope_among n (x ∷ xs) (inr h) = ap (λ b. (x == n) || b) (scope_among n xs h) ∙ or_true (x == n)
  where
    or_true : (b : Bool) → (b || true) ≡ true
    or_true true = refl
    or_true false = refl

-- ---- refusals

abbrev earliest_with : Refused → Option Refused → Option Refused
earliest_with s None = Some s
earliest_with s (Some t) = Some (earlier_of s t)

none_refused : (rs : List Refused) (r : Refused) → earliest rs ≡ None → Has rs r → ⊥
none_refused [] r e h = h
none_refused (s ∷ rs) r e h = by_rest (earliest rs) e
  where
    by_rest : (o : Option Refused) → earliest_with s o ≡ None → ⊥
    by_rest None q = cc
    by_rest (Some t) q = cc

-- ---- all of it

record Facts (ground : Ground) (gs cs : List ℕ) (n : ℕ) (f : List Found) : Type 0 where
  means : (at : ExprId) (meaning : Use) → Has f (Means at meaning) → ground.rules.reading.use_of at.0 ≡ Some (meaning_of meaning)
  captures : (x : ℕ) → Has f (Captures x) → IsKnown ground x → ground.rules.caught x ≡ true
  assigns : (x : ℕ) → Has f (Assigns x) → IsKnown ground x → ground.rules.assigned x ≡ true
  refuses : (why : Refusal) (at : Span) → Has f (Refuses why at) → ⊥
  places : (k : ℕ) → slice_get ground.locals (n + k) ≡ slice_get (locals_from gs cs n f) k
  declares : (m : ℕ) (l : LocalInfo) → slice_get ground.locals m ≡ Some l → IsLocal ground m l.declared l.given

less : (ground : Ground) (gs cs : List ℕ) (n m : ℕ) (one : Found) (f : List Found) → ((k : ℕ) → slice_get ground.locals (m + k) ≡ slice_get (locals_from gs cs m f) k)
    → Facts ground gs cs n (one ∷ f) → Facts ground gs cs m f
less ground gs cs n m one f places facts = record {
  means = λ at meaning h. facts.means at meaning (inr h);
  captures = λ x h. facts.captures x (inr h);
  assigns = λ x h. facts.assigns x (inr h);
  refuses = λ why at h. facts.refuses why at (inr h);
  places = places;
  declares = facts.declares;
}

each_of : (ground : Ground) (gs cs : List ℕ) (n : ℕ) (f : List Found) → Facts ground gs cs n f → Each ground n f
each_of ground gs cs n [] facts = tt
each_of ground gs cs n (Declares name span function given ∷ f) facts = (
  facts.declares n _ (ap (slice_get ground.locals) (omega arith) ∙ facts.places 0),
  each_of ground gs cs (suc n) f (less ground gs cs n (suc n) _ f (λ k. ap (slice_get ground.locals) (omega arith) ∙ facts.places (suc k)) facts),
)
each_of ground gs cs n (Means at meaning ∷ f) facts = (facts.means at meaning (inl refl), each_of ground gs cs n f (less ground gs cs n n _ f facts.places facts))
each_of ground gs cs n (Captures x ∷ f) facts = (facts.captures x (inl refl), each_of ground gs cs n f (less ground gs cs n n _ f facts.places facts))
each_of ground gs cs n (Assigns x ∷ f) facts = (facts.assigns x (inl refl), each_of ground gs cs n f (less ground gs cs n n _ f facts.places facts))
each_of ground gs cs n (RequiresModule site ∷ f) facts = each_of ground gs cs n f (less ground gs cs n n _ f facts.places facts)
each_of ground gs cs n (Continues at before ∷ f) facts = each_of ground gs cs n f (less ground gs cs n n _ f facts.places facts)
each_of ground gs cs n (Refuses why at ∷ f) facts = facts.refuses why at (inl refl)

-- what a local always holds is given to it
given_is : (uses : List (ExprId × Use)) (l : LocalInfo) (path : List ℕ) (ground : Ground) → ((at : ExprId) (meaning : Use) → use_at uses at ≡ Some meaning → ground.rules.reading.use_of at.0 ≡ Some (meaning_of meaning))
    → given_builtin uses l ≡ Some path → IsGiven ground l.given path
given_is uses l path ground h e = by_test l.assigned e
  where
    by_use : (at : ExprId) (o : Option Use) → use_at uses at ≡ o → path_of o ≡ Some path → ground.rules.reading.use_of at.0 ≡ Some (UseBuiltin path)
    by_use at None q k = cc
    by_use at (Some (Builtin p)) q k = h at (Builtin p) q ∙ ap (λ (z : List ℕ). Some (UseBuiltin z)) (let y : p ≡ path = cc in y)
    by_use at (Some (Local local)) q k = cc
    by_use at (Some Library) q k = cc
    by_use at (Some Global) q k = cc

    by_given : (g : Option ExprId) → option_and_then (λ at. path_of (use_at uses at)) g ≡ Some path → IsGiven ground g path
    by_given None k = cc
    by_given (Some at) k = by_use at (use_at uses at) refl k

    by_test : (b : Bool) → (if b then None else option_and_then (λ at. path_of (use_at uses at)) l.given) ≡ Some path → IsGiven ground l.given path
    by_test true k = cc
    by_test false k = by_given l.given k

pub told_module : (paths : List (List ℕ)) (home : ℕ) (x : Block) (leads : List ℕ → Option ℕ) (table : List (List ℕ × Signature)) (import : ℕ → Term) → StandsApart x → refusal_of paths x ≡ None
    → Told (ground_of paths home x leads table import) 0 (found_in paths x)
told_module paths home x leads table import apart accepted = record {
  each = each_of ground gs cs 0 f (record {
    means = λ at meaning h. ap (option_map meaning_of) (use_first (uses_of paths x) at meaning (fewer_distinct (uses_are_of_expressions paths x) apart.exprs) (found_use f at meaning h));
    captures = λ y h known. marked y known (λ l e. (marks_at gs cs 0 f y l e).1 ∙ (ap (λ (j : ℕ). scope.is_among j cs) (omega arith) ∙ scope_among y cs (picked a_captured f (Captures y) y h refl)));
    assigns = λ y h known. assigned y known (λ l e. (marks_at gs cs 0 f y l e).0 ∙ (ap (λ (j : ℕ). scope.is_among j gs) (omega arith) ∙ scope_among y gs (picked an_assigned f (Assigns y) y h refl)));
    refuses = λ why at h. none_refused (refusals f) (why, at) accepted (picked a_refusal f (Refuses why at) (why, at) h refl);
    places = λ k. ap (slice_get (locals_of paths x)) (omega arith);
    declares = λ m l e. record {
      place = own_place 0 (locals_of paths x) m l (ap are_distinct (sym (same_starts paths x)) ∙ apart.binds) e ∙ omega arith;
      there = (l, e);
      fixed = λ path q. given_is (uses_of paths x) l path ground (λ at meaning k. ap (option_map meaning_of) k) (sym (ap (option_and_then (given_builtin (uses_of paths x))) e) ∙ q);
    };
  });
}
  where
    f : List Found
    f = found_in paths x

    gs : List ℕ
    gs = filter_map an_assigned f

    cs : List ℕ
    cs = filter_map a_captured f

    ground : Ground
    ground = ground_of paths home x leads table import

    marked : (y : ℕ) → IsKnown ground y → ((l : LocalInfo) → slice_get (locals_of paths x) y ≡ Some l → l.captured ≡ true) → ground.rules.caught y ≡ true
    marked y known h = ap (λ (o : Option LocalInfo). option_map_or (λ (l : LocalInfo). l.captured) o false) known.1 ∙ h known.0 known.1

    assigned : (y : ℕ) → IsKnown ground y → ((l : LocalInfo) → slice_get (locals_of paths x) y ≡ Some l → l.assigned ≡ true) → ground.rules.assigned y ≡ true
    assigned y known h = ap (λ (o : Option LocalInfo). option_map_or (λ (l : LocalInfo). l.assigned) o false) known.1 ∙ h known.0 known.1
