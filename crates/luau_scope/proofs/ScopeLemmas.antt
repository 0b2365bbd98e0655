-- That the innermost local of each name stays at hand.
use Rattle.std.proofs.Common.{Result, Ok, Err, ◌≡◌, ℕ, Bool, true, false, cond, List, [], ◌∷◌, ◌++◌, map, refl, sym, ap, ◌∙◌, append_assoc}
use Rattle.std.proofs.lemmas.List.{append-nil}
use Rattle.std.specs.Prelude.{OnOk, OnErr, Option, Some, None, option_map, if◌then◌else◌}
use Rattle.std.specs.Cmp.Lexicographic.{slice_cmp}
use Rattle.std.specs.Ordering.{nat_cmp, is_eq}
use Rattle.std.specs.BTreeMap.{BTreeMap, Updates, get}
use Rattle.std.specs.Str.{bytes_eq}
use Rattle.std.proofs.lemmas.Map.Text.{is_eq-slice_cmp}
use Rattle.std.proofs.lemmas.Slice.Eq.{bytes_eq-Decides}
use Rattle.luau_scope.specs.declared.scope.Held.{Held}
use Rattle.luau_scope.specs.declared.scope.Entry.{Entry}
use Rattle.luau_scope.specs.Found.{Visible, Scope, meant}
use Rattle.luau_scope.specs.InScope.{held_of, visible_of, innermost_of, AreLinked, InSync}

-- one more local in scope
pub meant_last : (scope : Scope) (v : Visible) (name : List ℕ) → meant (scope ++ v ∷ []) name ≡ (if bytes_eq v.name name then Some v else meant scope name)
meant_last [] v name = refl
meant_last (w ∷ scope) v name =
    rw (meant_last scope v name) (elim (bytes_eq v.name name) as (λ b. elim (if b then Some v else meant scope name) as (λ _. Option Visible) [ None ↦ if bytes_eq w.name name then Some w else None | Some inner ↦ Some inner ] ≡ (if b then Some v else meant (w ∷ scope) name)) [ true ↦ refl | false ↦ refl ])

map_last : (xs : List Entry) (x : Entry) → map visible_of (xs ++ x ∷ []) ≡ map visible_of xs ++ visible_of x ∷ []
map_last [] x = refl
map_last (y ∷ xs) x = ap (λ (vs : Scope). visible_of y ∷ vs) (map_last xs x)

innermost_last : (entries : List Entry) (entry : Entry) (name : List ℕ)
    → innermost_of (entries ++ entry ∷ []) name ≡ (if bytes_eq entry.name name then Some entry.held else innermost_of entries name)
innermost_last entries entry name =
    ap (λ (vs : Scope). option_map held_of (meant vs name)) (map_last entries entry)
    ∙ ap (option_map held_of) (meant_last (map visible_of entries) (visible_of entry) name)
    ∙ (elim (bytes_eq entry.name name) as (λ b. option_map held_of (if b then Some (visible_of entry) else meant (map visible_of entries) name) ≡ (if b then Some entry.held else innermost_of entries name)) [ true ↦ refl | false ↦ refl ])

linked_last : (outer entries : List Entry) (entry : Entry) → AreLinked outer entries → entry.hides ≡ innermost_of (outer ++ entries) entry.name → AreLinked outer (entries ++ entry ∷ [])
linked_last outer [] entry l e = (rw append-nil at e, tt)
linked_last outer (x ∷ entries) entry l e = (l.0, linked_last (outer ++ x ∷ []) entries entry l.1 (rw append_assoc e))

-- a local comes into scope
pub sync_enter : (entries : List Entry) (entry : Entry) (m n : BTreeMap (List ℕ) Held) → InSync entries m
    → entry.hides ≡ innermost_of entries entry.name
    → ((q : List ℕ) → get (slice_cmp nat_cmp) n q ≡ cond (is_eq (slice_cmp nat_cmp entry.name q)) (Some entry.held) (get (slice_cmp nat_cmp) m q))
    → InSync (entries ++ entry ∷ []) n
sync_enter entries entry m n s e u = record {
  at_hand = λ q. u q ∙ ap (λ (b : Bool). cond b (Some entry.held) (get (slice_cmp nat_cmp) m q)) (is_eq-slice_cmp entry.name q)
      ∙ ap (λ (o : Option Held). cond (bytes_eq entry.name q) (Some entry.held) o) (s.at_hand q) ∙ sym (innermost_last entries entry q);
  linked = linked_last [] entries entry s.linked e;
}

linked_split : (outer entries : List Entry) (entry : Entry) → AreLinked outer (entries ++ entry ∷ []) → AreLinked outer entries × (entry.hides ≡ innermost_of (outer ++ entries) entry.name)
linked_split outer [] entry l = (tt, rw append-nil l.0)
linked_split outer (x ∷ entries) entry l =
    let rest = linked_split (outer ++ x ∷ []) entries entry l.1 in
    ((l.0, rest.0), rest.1 ∙ ap (λ (es : List Entry). innermost_of es entry.name) (append_assoc outer (x ∷ []) entries))

without_last : (entries : List Entry) (entry : Entry) (q : List ℕ) (b : Bool) → bytes_eq entry.name q ≡ b → entry.hides ≡ innermost_of entries entry.name
    → cond b entry.hides (cond b (Some entry.held) (innermost_of entries q)) ≡ innermost_of entries q
without_last entries entry q true e h = h ∙ ap (innermost_of entries) ((bytes_eq-Decides entry.name q).0 e)
without_last entries entry q false e h = refl

-- the last local leaves the scope
pub sync_leave : (entries : List Entry) (entry : Entry) (m n : BTreeMap (List ℕ) Held) → InSync (entries ++ entry ∷ []) m
    → ((q : List ℕ) → get (slice_cmp nat_cmp) n q ≡ cond (is_eq (slice_cmp nat_cmp entry.name q)) entry.hides (get (slice_cmp nat_cmp) m q))
    → InSync entries n
sync_leave entries entry m n s u =
    let l = linked_split [] entries entry s.linked in
    record {
      at_hand = λ q. u q ∙ ap (λ (b : Bool). cond b entry.hides (get (slice_cmp nat_cmp) m q)) (is_eq-slice_cmp entry.name q)
          ∙ ap (λ (o : Option Held). cond (bytes_eq entry.name q) entry.hides o) (s.at_hand q ∙ innermost_last entries entry q)
          ∙ without_last entries entry q (bytes_eq entry.name q) refl l.1;
      linked = l.0;
    }

bytes_eq_self : (name : List ℕ) → bytes_eq name name ≡ true
bytes_eq_self name = (bytes_eq-Decides name name).1 refl

-- the last local is at hand
pub last_at_hand : (entries : List Entry) (entry : Entry) (m : BTreeMap (List ℕ) Held) → InSync (entries ++ entry ∷ []) m → get (slice_cmp nat_cmp) m entry.name ≡ Some entry.held
last_at_hand entries entry m s =
    s.at_hand entry.name ∙ innermost_last entries entry entry.name
    ∙ ap (λ (b : Bool). if b then Some entry.held else innermost_of entries entry.name) (bytes_eq_self entry.name)

-- the local that the last one hid is at hand again
pub sync_restored : {X E : Type 0} (r : Result X E) (entries : List Entry) (entry : Entry) (outer : Held) (m n : BTreeMap (List ℕ) Held) → InSync (entries ++ entry ∷ []) m
    → entry.hides ≡ Some outer → OnOk r (Updates (slice_cmp nat_cmp) m n entry.name (Some outer)) → OnErr r (get (slice_cmp nat_cmp) m entry.name ≡ None) → InSync entries n
sync_restored (Ok x) entries entry outer m n s h u a =
    sync_leave entries entry m n s (λ q. u.0 q ∙ ap (λ (o : Option Held). cond (is_eq (slice_cmp nat_cmp entry.name q)) o (get (slice_cmp nat_cmp) m q)) (sym h))
sync_restored (Err x) entries entry outer m n s h u a = absurd (cc (last_at_hand entries entry m s, a))
