-- Properties one after the other: the last of a name counts.
use Rattle.std.proofs.Common.{◌≡◌, ℕ, ◌+◌, ◌<◌, Bool, true, false, List, [], ◌∷◌, ◌++◌, length, get_or, take, refl, sym, ap, ◌∙◌}
use Rattle.std.specs.Prelude.{Option, Some, None, if◌then◌else◌}
use Rattle.std.proofs.lemmas.List.{take_more}
use Rattle.std.specs.Cmp.Lexicographic.{nat_list_cmp_total}
use Rattle.std.specs.declared.cmp.Ordering.{Ordering}
use Rattle.std.specs.declared.cmp.Ordering.TheVariants.{Less, Equal, Greater}
use Rattle.std.specs.Ordering.{ordering_reverse, is_eq}
use Rattle.std.proofs.lemmas.Map.Text.{is_eq-slice_cmp}
use Rattle.std.proofs.lemmas.Slice.Eq.{bytes_eq-Decides}
use Rattle.luau_tree.specs.declared.names.Access.{Access}
use Rattle.luau_tree.specs.Tree.{Prop, the_prop, NameKey, Indexer, TypeSyntax}
use Rattle.luau_tree.specs.View.{view_prop, view_prop_key, view_props, view_type}
use Rattle.luau_tree.specs.declared.tree as code
use Rattle.luau_tree.specs.declared.tree.ExprKind.TheViews as part
use Rattle.luau_tree.specs.declared.tree.PropKey.TheVariants as a_key
use Rattle.luau_tree.proofs.Views.{prop_seen, name_key_seen, indexer_key_seen}
use Rattle.type_arena.specs.Term.{Term, Fields, no_fields, more_fields}
use Rattle.type_normal.specs.Free.{name_cmp}
use Rattle.type_normal.specs.Members.{by_order}
use Rattle.annotations.specs.Lowered.{Known, is_readable, with_field, raw, raw_fields, raw_prop}
use Rattle.type_lower.specs.Rowed.{readable}
use Rattle.type_lower.proofs.RowFacts.{put_last}

turn : (a b : List ℕ) (o : Ordering) → name_cmp a b ≡ o → name_cmp b a ≡ ordering_reverse o
turn a b o e = nat_list_cmp_total.antisymm b a ∙ ap ordering_reverse e

before : (a b c : List ℕ) → name_cmp a b ≡ Less → name_cmp b c ≡ Less → name_cmp a c ≡ Less
before a b c e f = nat_list_cmp_total.trans a b c e f

same_name : (a b : List ℕ) → name_cmp a b ≡ Equal → a ≡ b
same_name a b e = (bytes_eq-Decides a b).0 (sym (is_eq-slice_cmp a b) ∙ ap is_eq e)

-- one step of each, by how the names compare
with_by : (a : List ℕ) (s : Term) (x : List ℕ) (u : Term) (xs : Fields) (o : Ordering) → name_cmp a x ≡ o
    → with_field a s (more_fields x u xs) ≡ by_order o (more_fields a s (more_fields x u xs)) (more_fields x u xs) (more_fields x u (with_field a s xs))
with_by a s x u xs o e = ap (λ (r : Ordering). by_order r (more_fields a s (more_fields x u xs)) (more_fields x u xs) (more_fields x u (with_field a s xs))) e

put_by : (p : List ℕ) (t : Term) (x : List ℕ) (u : Term) (xs : Fields) (o : Ordering) → name_cmp p x ≡ o
    → put_last p t (more_fields x u xs) ≡ by_order o (more_fields p t (more_fields x u xs)) (more_fields x t xs) (more_fields x u (put_last p t xs))
put_by p t x u xs o e = ap (λ (r : Ordering). by_order r (more_fields p t (more_fields x u xs)) (more_fields x t xs) (more_fields x u (put_last p t xs))) e

-- both come before a field
front : (a : List ℕ) (s : Term) (p : List ℕ) (t : Term) (x : List ℕ) (u : Term) (xs : Fields) (o : Ordering) → name_cmp a p ≡ o → name_cmp p x ≡ Less → name_cmp a x ≡ Less
    → with_field a s (more_fields p t (more_fields x u xs)) ≡ put_last p t (more_fields a s (more_fields x u xs))
front a s p t x u xs Less e f g =
    with_by a s p t (more_fields x u xs) Less e
    ∙ sym (put_by p t a s (more_fields x u xs) Greater (turn a p Less e) ∙ ap (more_fields a s) (put_by p t x u xs Less f))
front a s p t x u xs Equal e f g =
    with_by a s p t (more_fields x u xs) Equal e ∙ ap (λ (n : List ℕ). more_fields n t (more_fields x u xs)) (sym (same_name a p e))
    ∙ sym (put_by p t a s (more_fields x u xs) Equal (turn a p Equal e))
front a s p t x u xs Greater e f g =
    with_by a s p t (more_fields x u xs) Greater e ∙ ap (more_fields p t) (with_by a s x u xs Less g)
    ∙ sym (put_by p t a s (more_fields x u xs) Less (turn a p Greater e))

alone : (a : List ℕ) (s : Term) (p : List ℕ) (t : Term) (o : Ordering) → name_cmp a p ≡ o → with_field a s (more_fields p t no_fields) ≡ put_last p t (more_fields a s no_fields)
alone a s p t Less e = with_by a s p t no_fields Less e ∙ sym (put_by p t a s no_fields Greater (turn a p Less e))
alone a s p t Equal e =
    with_by a s p t no_fields Equal e ∙ ap (λ (n : List ℕ). more_fields n t no_fields) (sym (same_name a p e)) ∙ sym (put_by p t a s no_fields Equal (turn a p Equal e))
alone a s p t Greater e = with_by a s p t no_fields Greater e ∙ sym (put_by p t a s no_fields Less (turn a p Greater e))

-- a field in front of others, and one behind them
commute_by : (a : List ℕ) (s : Term) (p : List ℕ) (t : Term) (x : List ℕ) (u : Term) (xs : Fields) (q o : Ordering) → name_cmp p x ≡ q → name_cmp a x ≡ o
    → with_field a s (put_last p t xs) ≡ put_last p t (with_field a s xs)
    → with_field a s (by_order q (more_fields p t (more_fields x u xs)) (more_fields x t xs) (more_fields x u (put_last p t xs)))
    ≡ put_last p t (by_order o (more_fields a s (more_fields x u xs)) (more_fields x u xs) (more_fields x u (with_field a s xs)))
commute_by a s p t x u xs Less Less f g ih = front a s p t x u xs (name_cmp a p) refl f g
commute_by a s p t x u xs Less Equal f g ih =
    with_by a s p t (more_fields x u xs) Greater (nat_list_cmp_total.congr a x p g ∙ turn p x Less f) ∙ ap (more_fields p t) (with_by a s x u xs Equal g)
    ∙ sym (put_by p t x u xs Less f)
commute_by a s p t x u xs Less Greater f g ih =
    with_by a s p t (more_fields x u xs) Greater (turn p a Less (before p x a f (turn a x Greater g))) ∙ ap (more_fields p t) (with_by a s x u xs Greater g)
    ∙ sym (put_by p t x u (with_field a s xs) Less f)
commute_by a s p t x u xs Equal Less f g ih =
    with_by a s x t xs Less g
    ∙ sym (put_by p t a s (more_fields x u xs) Greater (nat_list_cmp_total.congr p x a f ∙ turn a x Less g) ∙ ap (more_fields a s) (put_by p t x u xs Equal f))
commute_by a s p t x u xs Equal Equal f g ih = with_by a s x t xs Equal g ∙ sym (put_by p t x u xs Equal f)
commute_by a s p t x u xs Equal Greater f g ih = with_by a s x t xs Greater g ∙ sym (put_by p t x u (with_field a s xs) Equal f)
commute_by a s p t x u xs Greater Less f g ih =
    with_by a s x u (put_last p t xs) Less g
    ∙ sym (put_by p t a s (more_fields x u xs) Greater (turn a p Less (before a x p g (turn p x Greater f))) ∙ ap (more_fields a s) (put_by p t x u xs Greater f))
commute_by a s p t x u xs Greater Equal f g ih = with_by a s x u (put_last p t xs) Equal g ∙ sym (put_by p t x u xs Greater f)
commute_by a s p t x u xs Greater Greater f g ih = with_by a s x u (put_last p t xs) Greater g ∙ ap (more_fields x u) ih ∙ sym (put_by p t x u (with_field a s xs) Greater f)

commute : (a : List ℕ) (s : Term) (p : List ℕ) (t : Term) (fs : Fields) → with_field a s (put_last p t fs) ≡ put_last p t (with_field a s fs)
commute a s p t no_fields = alone a s p t (name_cmp a p) refl
commute a s p t (more_fields x u xs) = commute_by a s p t x u xs (name_cmp p x) (name_cmp a x) refl refl (commute a s p t xs)

-- a property behind others
prop_type : Prop → TypeSyntax
prop_type (the_prop access key type) = type

in_front : Option (List ℕ) → Term → Fields → Fields
in_front None type fields = fields
in_front (Some name) type fields = with_field name type fields

behind : Option (List ℕ) → Term → Fields → Fields
behind None type fields = fields
behind (Some name) type fields = put_last name type fields

front_by : (known : List Known) (name : List ℕ) (type : TypeSyntax) (later : Fields) (b : Bool)
    → (if b then with_field name (raw known type) later else later) ≡ in_front (if b then Some name else None) (raw known type) later
unfolding in_front
front_by known name type later true = refl
front_by known name type later false = refl

prop_front : (known : List Known) (prop : Prop) (later : Fields) → raw_prop known prop later ≡ in_front (readable prop) (raw known (prop_type prop)) later
unfolding in_front prop_type
prop_front known (the_prop access (NameKey name) type) later = front_by known name type later (is_readable access)
prop_front known (the_prop access (Indexer key) type) later = refl

swap : (n m : Option (List ℕ)) (s t : Term) (fs : Fields) → in_front n s (behind m t fs) ≡ behind m t (in_front n s fs)
unfolding in_front behind
swap None m s t fs = refl
swap (Some n) None s t fs = refl
swap (Some n) (Some m) s t fs = commute n s m t fs

only : (m : Option (List ℕ)) (t : Term) → in_front m t no_fields ≡ behind m t no_fields
unfolding in_front behind
only None t = refl
only (Some m) t = refl

more : (known : List Known) (ps : List code.Prop.Prop) (p : code.Prop.Prop)
    → raw_fields known (view_props (ps ++ p ∷ [])) ≡ behind (readable (view_prop p)) (raw known (prop_type (view_prop p))) (raw_fields known (view_props ps))
more known [] p = prop_front known (view_prop p) no_fields ∙ only (readable (view_prop p)) (raw known (prop_type (view_prop p)))
more known (q ∷ ps) p =
    ap (raw_prop known (view_prop q)) (more known ps p)
    ∙ prop_front known (view_prop q) (behind (readable (view_prop p)) (raw known (prop_type (view_prop p))) (raw_fields known (view_props ps)))
    ∙ swap (readable (view_prop q)) (readable (view_prop p)) (raw known (prop_type (view_prop q))) (raw known (prop_type (view_prop p))) (raw_fields known (view_props ps))
    ∙ ap (behind (readable (view_prop p)) (raw known (prop_type (view_prop p)))) (sym (prop_front known (view_prop q) (raw_fields known (view_props ps))))

pub prop_layer : (x : code.Prop.Prop) → view_prop x ≡ the_prop x.access (view_prop_key x.key) (view_type x.typ)
prop_layer x = ap view_prop (sym (part.roll-out-Prop x)) ∙ prop_seen _ _ _

type_seen_of : (x : code.Prop.Prop) → prop_type (view_prop x) ≡ view_type x.typ
unfolding prop_type
type_seen_of x = ap prop_type (prop_layer x)

taken : (known : List Known) (ps : List code.Prop.Prop) (i : ℕ) (p : code.Prop.Prop) → i < length ps → p ≡ get_or ps i p
    → raw_fields known (view_props (take (i + 1) ps)) ≡ behind (readable (view_prop p)) (raw known (view_type p.typ)) (raw_fields known (view_props (take i ps)))
taken known ps i p l is =
    ap (λ (qs : List code.Prop.Prop). raw_fields known (view_props qs)) (take_more ps i p l ∙ ap (λ (q : code.Prop.Prop). take i ps ++ q ∷ []) (sym is))
    ∙ more known (take i ps) p ∙ ap (λ (t : TypeSyntax). behind (readable (view_prop p)) (raw known t) (raw_fields known (view_props (take i ps)))) (type_seen_of p)

-- a property that can't be read, and one that can
pub prop_lost : (known : List Known) (ps : List code.Prop.Prop) (i : ℕ) (p : code.Prop.Prop) → i < length ps → p ≡ get_or ps i p → readable (view_prop p) ≡ None
    → raw_fields known (view_props (take (i + 1) ps)) ≡ raw_fields known (view_props (take i ps))
unfolding behind
prop_lost known ps i p l is e = taken known ps i p l is ∙ ap (λ (n : Option (List ℕ)). behind n (raw known (view_type p.typ)) (raw_fields known (view_props (take i ps)))) e

pub prop_put : (known : List Known) (ps : List code.Prop.Prop) (i : ℕ) (p : code.Prop.Prop) (name : List ℕ) → i < length ps → p ≡ get_or ps i p → readable (view_prop p) ≡ Some name
    → raw_fields known (view_props (take (i + 1) ps)) ≡ put_last name (raw known (view_type p.typ)) (raw_fields known (view_props (take i ps)))
unfolding behind
prop_put known ps i p name l is e = taken known ps i p l is ∙ ap (λ (n : Option (List ℕ)). behind n (raw known (view_type p.typ)) (raw_fields known (view_props (take i ps)))) e

-- the name that code finds
pub named_readable : (x : code.Prop.Prop) (name : List ℕ) (access : Access) → x.key ≡ a_key.Name name → x.access ≡ access → (if is_readable access then Some name else None) ≡ readable (view_prop x)
named_readable x name access k a =
    sym (ap readable (prop_layer x) ∙ (λ i. readable (the_prop (a i) ((ap view_prop_key k ∙ name_key_seen name) i) (view_type x.typ))))

pub indexer_readable : (x : code.Prop.Prop) (key : code.TypeSyntax.TypeSyntax) → x.key ≡ a_key.Indexer key → None ≡ readable (view_prop x)
indexer_readable x key k =
    sym (ap readable (prop_layer x) ∙ (λ i. readable (the_prop x.access ((ap view_prop_key k ∙ indexer_key_seen key) i) (view_type x.typ))))
