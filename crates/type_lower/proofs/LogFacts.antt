-- That the last of each name stays at hand.
use Rattle.std.proofs.Common.{Result, Ok, Err, ◌≡◌, ℕ, Bool, true, false, cond, List, [], ◌∷◌, ◌++◌, map, refl, sym, ap, ◌∙◌, append_assoc}
use Rattle.std.proofs.lemmas.List.{append-nil}
use Rattle.std.specs.Prelude.{OnOk, OnErr, Option, Some, None, if◌then◌else◌}
use Rattle.std.specs.Cmp.Lexicographic.{slice_cmp}
use Rattle.std.specs.Ordering.{nat_cmp, is_eq}
use Rattle.std.specs.BTreeMap.{BTreeMap, Updates, get}
use Rattle.std.specs.Str.{bytes_eq}
use Rattle.std.proofs.lemmas.Map.Text.{is_eq-slice_cmp}
use Rattle.std.proofs.lemmas.Slice.Eq.{bytes_eq-Decides}
use Rattle.type_arena.specs.declared.node.TypeRef.{TypeRef}
use Rattle.type_lower.specs.declared.aliases.Entry.{Entry}
use Rattle.type_lower.specs.Visible.{last_of}
use Rattle.type_lower.specs.Log.{shown, last_in, AreLinked, InSync}

-- one more name
pub last_of_more : (aliases : List (List ℕ × TypeRef)) (alias : List ℕ × TypeRef) (name : List ℕ) → last_of name (aliases ++ alias ∷ []) ≡ (if bytes_eq alias.0 name then Some alias.1 else last_of name aliases)
last_of_more [] alias name = refl
last_of_more (other ∷ aliases) alias name =
    rw (last_of_more aliases alias name)
    (elim (bytes_eq alias.0 name) as (λ b. elim (if b then Some alias.1 else last_of name aliases) as (λ _. Option TypeRef) [ None ↦ if bytes_eq other.0 name then Some other.1 else None | Some at ↦ Some at ] ≡ (if b then Some alias.1 else last_of name (other ∷ aliases))) [ true ↦ refl | false ↦ refl ])

map_last : (xs : List Entry) (x : Entry) → map shown (xs ++ x ∷ []) ≡ map shown xs ++ shown x ∷ []
map_last [] x = refl
map_last (y ∷ xs) x = ap (λ (vs : List (List ℕ × TypeRef)). shown y ∷ vs) (map_last xs x)

last_in_more : (entries : List Entry) (entry : Entry) (name : List ℕ)
    → last_in (entries ++ entry ∷ []) name ≡ (if bytes_eq entry.name name then Some entry.at else last_in entries name)
last_in_more entries entry name = ap (λ (vs : List (List ℕ × TypeRef)). last_of name vs) (map_last entries entry) ∙ last_of_more (map shown entries) (shown entry) name

linked_last : (outer entries : List Entry) (entry : Entry) → AreLinked outer entries → entry.hides ≡ last_in (outer ++ entries) entry.name → AreLinked outer (entries ++ entry ∷ [])
linked_last outer [] entry l e = (rw append-nil at e, tt)
linked_last outer (x ∷ entries) entry l e = (l.0, linked_last (outer ++ x ∷ []) entries entry l.1 (rw append_assoc e))

-- a name comes
pub sync_put : (entries : List Entry) (entry : Entry) (m n : BTreeMap (List ℕ) TypeRef) → InSync entries m
    → entry.hides ≡ last_in entries entry.name
    → ((q : List ℕ) → get (slice_cmp nat_cmp) n q ≡ cond (is_eq (slice_cmp nat_cmp entry.name q)) (Some entry.at) (get (slice_cmp nat_cmp) m q))
    → InSync (entries ++ entry ∷ []) n
sync_put entries entry m n s e u = record {
  at_hand = λ q. u q ∙ ap (λ (b : Bool). cond b (Some entry.at) (get (slice_cmp nat_cmp) m q)) (is_eq-slice_cmp entry.name q)
      ∙ ap (λ (o : Option TypeRef). cond (bytes_eq entry.name q) (Some entry.at) o) (s.at_hand q) ∙ sym (last_in_more entries entry q);
  linked = linked_last [] entries entry s.linked e;
}

linked_split : (outer entries : List Entry) (entry : Entry) → AreLinked outer (entries ++ entry ∷ []) → AreLinked outer entries × (entry.hides ≡ last_in (outer ++ entries) entry.name)
linked_split outer [] entry l = (tt, rw append-nil l.0)
linked_split outer (x ∷ entries) entry l =
    let rest = linked_split (outer ++ x ∷ []) entries entry l.1 in
    ((l.0, rest.0), rest.1 ∙ ap (λ (es : List Entry). last_in es entry.name) (append_assoc outer (x ∷ []) entries))

without_last : (entries : List Entry) (entry : Entry) (q : List ℕ) (b : Bool) → bytes_eq entry.name q ≡ b → entry.hides ≡ last_in entries entry.name
    → cond b entry.hides (cond b (Some entry.at) (last_in entries q)) ≡ last_in entries q
without_last entries entry q true e h = h ∙ ap (last_in entries) ((bytes_eq-Decides entry.name q).0 e)
without_last entries entry q false e h = refl

-- the last name leaves
pub sync_leave : (entries : List Entry) (entry : Entry) (m n : BTreeMap (List ℕ) TypeRef) → InSync (entries ++ entry ∷ []) m
    → ((q : List ℕ) → get (slice_cmp nat_cmp) n q ≡ cond (is_eq (slice_cmp nat_cmp entry.name q)) entry.hides (get (slice_cmp nat_cmp) m q))
    → InSync entries n
sync_leave entries entry m n s u =
    let l = linked_split [] entries entry s.linked in
    record {
      at_hand = λ q. u q ∙ ap (λ (b : Bool). cond b entry.hides (get (slice_cmp nat_cmp) m q)) (is_eq-slice_cmp entry.name q)
          ∙ ap (λ (o : Option TypeRef). cond (bytes_eq entry.name q) entry.hides o) (s.at_hand q ∙ last_in_more entries entry q)
          ∙ without_last entries entry q (bytes_eq entry.name q) refl l.1;
      linked = l.0;
    }

bytes_eq_self : (name : List ℕ) → bytes_eq name name ≡ true
bytes_eq_self name = (bytes_eq-Decides name name).1 refl

-- the last name is at hand
pub last_at_hand : (entries : List Entry) (entry : Entry) (m : BTreeMap (List ℕ) TypeRef) → InSync (entries ++ entry ∷ []) m → get (slice_cmp nat_cmp) m entry.name ≡ Some entry.at
last_at_hand entries entry m s =
    s.at_hand entry.name ∙ last_in_more entries entry entry.name
    ∙ ap (λ (b : Bool). if b then Some entry.at else last_in entries entry.name) (bytes_eq_self entry.name)

-- what the last name hid is at hand again
pub sync_restored : {X E : Type 0} (r : Result X E) (entries : List Entry) (entry : Entry) (outer : TypeRef) (m n : BTreeMap (List ℕ) TypeRef) → InSync (entries ++ entry ∷ []) m
    → entry.hides ≡ Some outer → OnOk r (Updates (slice_cmp nat_cmp) m n entry.name (Some outer)) → OnErr r (get (slice_cmp nat_cmp) m entry.name ≡ None) → InSync entries n
sync_restored (Ok x) entries entry outer m n s h u a =
    sync_leave entries entry m n s (λ q. u.0 q ∙ ap (λ (o : Option TypeRef). cond (is_eq (slice_cmp nat_cmp entry.name q)) o (get (slice_cmp nat_cmp) m q)) (sym h))
sync_restored (Err x) entries entry outer m n s h u a = absurd (cc (last_at_hand entries entry m s, a))
