-- What the maps at places of a list of nodes have.
use Rattle.std.proofs.Common.{◌≡◌, ℕ, zero, suc, ◌<◌, ◌≤◌, ◌/◌, List, [], ◌∷◌, ◌++◌, length, get_or, refl, sym, ap, ◌∙◌, subst, arith}
use Rattle.std.specs.Prelude.{Option, Some, None, Bool, true, false, slice_get, All, if◌then◌else◌}
use Rattle.std.proofs.lemmas.Option.{slice_get-get_or, same_Some}
use Rattle.type_arena.specs.declared.node.TypeRef.{TypeRef}
use Rattle.local_types.specs.Maps.{is_even, by_number, no_ref, ref_by, ref_within, ref_of, types_in, PartsComeBefore, KeepsMaps}
use Rattle.local_types.specs.declared.node.MapNode.{MapNode}
use Rattle.local_types.specs.declared.node.MapNode.TheVariants.{All as Everywhere, Split}
use Rattle.local_types.specs.declared.node.Parts.{Parts}

half_below : (m : ℕ) → m / 2 ≤ m
half_below m = omega arith

-- two functions by numbers are the same where their parts are, below a number
pub by_number-same : {X : Type 0} (x y : X) (f g h k : ℕ → X) (n : ℕ) → x ≡ y → ((m : ℕ) → m < n → f m ≡ h m) → ((m : ℕ) → m < n → g m ≡ k m) → by_number x f g n ≡ by_number y h k n
by_number-same x y f g h k zero e odd even = e
by_number-same {X} x y f g h k (suc m) e odd even = go (is_even m)
  where
    lower : m / 2 < suc m
    lower = omega arith

    go : (b : Bool) → ◌≡◌ {A = X} (if b then f (m / 2) else g (m / 2)) (if b then h (m / 2) else k (m / 2))
    go true = odd (m / 2) lower
    go false = even (m / 2) lower

-- a function of each entry goes to the parts
pub by_number-map : {X Y : Type 0} (f : X → Y) (x : X) (odd even : ℕ → X) (n : ℕ) → f (by_number x odd even n) ≡ by_number (f x) (λ k. f (odd k)) (λ k. f (even k)) n
by_number-map f x odd even zero = refl
by_number-map {X} {Y} f x odd even (suc m) = go (is_even m)
  where
    go : (b : Bool) → f (if b then odd (m / 2) else even (m / 2)) ≡ (if b then f (odd (m / 2)) else f (even (m / 2)))
    go true = refl
    go false = refl

ref_by-same : (below other : ℕ → ℕ → TypeRef) (node : Option MapNode) (n : ℕ) → ((place m : ℕ) → m < n → below place m ≡ other place m) → ref_by below node n ≡ ref_by other node n
ref_by-same below other None n same = refl
ref_by-same below other (Some (Everywhere at)) n same = refl
ref_by-same below other (Some (Split parts)) n same =
    by_number-same parts.here parts.here (below parts.odd.at) (below parts.even.at) (other parts.odd.at) (other parts.even.at) n refl (same parts.odd.at) (same parts.even.at)

-- more steps than the number change nothing
enough : (s t : ℕ) (nodes : List MapNode) (place n : ℕ) → n < s → n < t → ref_within s nodes place n ≡ ref_within t nodes place n
unfolding ref_within
enough zero t nodes place n h k = absurd (omega arith)
enough (suc s) zero nodes place n h k = absurd (omega arith)
enough (suc s) (suc t) nodes place n h k =
    ref_by-same (ref_within s nodes) (ref_within t nodes) (slice_get nodes place) n (λ p m l. enough s t nodes p m (omega arith) (omega arith))

-- what a map has is by its node
pub ref_of-node : (nodes : List MapNode) (place n : ℕ) → ref_of nodes place n ≡ ref_by (ref_of nodes) (slice_get nodes place) n
unfolding ref_of ref_within
ref_of-node nodes place n =
    ref_by-same (ref_within n nodes) (λ p m. ref_within (suc m) nodes p m) (slice_get nodes place) n (λ p m l. enough n (suc m) nodes p m l (omega arith))

some_node : (nodes : List MapNode) (place : ℕ) → place < length nodes → slice_get nodes place ≡ None → ⊥
some_node nodes place inside e = let k : slice_get nodes place ≡ Some (get_or nodes place (Everywhere no_ref)) = slice_get-get_or nodes place (Everywhere no_ref) inside in cc

-- what holds of all types that nodes name, and of what lower numbers have, holds of what a node has
holds_by : (P : TypeRef → Type 0) (nodes : List MapNode) → PartsComeBefore nodes → ((place : ℕ) (node : MapNode) → slice_get nodes place ≡ Some node → All P (types_in node))
    → (below : ℕ → ℕ → TypeRef) (place n : ℕ) → place < length nodes → ((part m : ℕ) → m < n → part < length nodes → P (below part m)) → P (ref_by below (slice_get nodes place) n)
holds_by P nodes before holds below place n inside lower = subst (λ (o : Option MapNode). P (ref_by below o n)) (sym (found (slice_get nodes place) refl).1) (by_node (found (slice_get nodes place) refl).0 (found (slice_get nodes place) refl).1)
  where
    found : (o : Option MapNode) → slice_get nodes place ≡ o → (node : MapNode) × (slice_get nodes place ≡ Some node)
    found None e = absurd (some_node nodes place inside e)
    found (Some node) e = (node, e)

    side : (odd even : ℕ) (k : ℕ) (b : Bool) → odd < length nodes → even < length nodes → k < n → P (if b then below odd k else below even k)
    side odd even k true o e l = lower odd k l o
    side odd even k false o e l = lower even k l e

    by_part : (parts : Parts) → slice_get nodes place ≡ Some (Split parts) → (m : ℕ) → m ≡ n → P (by_number parts.here (below parts.odd.at) (below parts.even.at) m)
    by_part parts e zero same = holds place (Split parts) e 0 no_ref (omega arith)
    by_part parts e (suc m) same =
        let odd : parts.odd.at < place = before place (Split parts) e 0 0 (omega arith) in
        let even : parts.even.at < place = before place (Split parts) e 1 0 (omega arith) in
        side parts.odd.at parts.even.at (m / 2) (is_even m) (omega arith) (omega arith) (omega arith)

    by_node : (node : MapNode) → slice_get nodes place ≡ Some node → P (ref_by below (Some node) n)
    by_node (Everywhere at) e = holds place (Everywhere at) e 0 no_ref (omega arith)
    by_node (Split parts) e = by_part parts e n refl

holds_within : (P : TypeRef → Type 0) (nodes : List MapNode) → PartsComeBefore nodes → ((place : ℕ) (node : MapNode) → slice_get nodes place ≡ Some node → All P (types_in node))
    → (steps place n : ℕ) → n < steps → place < length nodes → P (ref_within steps nodes place n)
unfolding ref_within
holds_within P nodes before holds zero place n low inside = absurd (omega arith)
holds_within P nodes before holds (suc steps) place n low inside =
    holds_by P nodes before holds (ref_within steps nodes) place n inside (λ part m h there. holds_within P nodes before holds steps part m (omega arith) there)

-- what holds of all types that nodes name holds of what a map has
pub ref_holds : (P : TypeRef → Type 0) (nodes : List MapNode) → PartsComeBefore nodes → ((place : ℕ) (node : MapNode) → slice_get nodes place ≡ Some node → All P (types_in node))
    → (place : ℕ) → place < length nodes → (n : ℕ) → P (ref_of nodes place n)
unfolding ref_of
ref_holds P nodes before holds place inside n = holds_within P nodes before holds (suc n) place n (omega arith) inside

kept_by : (old new : List MapNode) → PartsComeBefore old → KeepsMaps old new → (below other : ℕ → ℕ → TypeRef) (place n : ℕ) → place < length old
    → ((part m : ℕ) → part < length old → below part m ≡ other part m) → ref_by below (slice_get new place) n ≡ ref_by other (slice_get old place) n
kept_by old new before keeps below other place n inside same = by_node (slice_get old place) refl
  where
    by_node : (node : Option MapNode) → slice_get old place ≡ node → ref_by below (slice_get new place) n ≡ ref_by other (slice_get old place) n
    by_node None e = absurd (some_node old place inside e)
    by_node (Some (Everywhere at)) e = ap (λ (o : Option MapNode). ref_by below o n) (keeps place (Everywhere at) e) ∙ sym (ap (λ (o : Option MapNode). ref_by other o n) e)
    by_node (Some (Split parts)) e =
        let odd : parts.odd.at < place = before place (Split parts) e 0 0 (omega arith) in
        let even : parts.even.at < place = before place (Split parts) e 1 0 (omega arith) in
        ap (λ (o : Option MapNode). ref_by below o n) (keeps place (Split parts) e)
        ∙ by_number-same parts.here parts.here (below parts.odd.at) (below parts.even.at) (other parts.odd.at) (other parts.even.at) n refl
        (λ m h. same parts.odd.at m (omega arith)) (λ m h. same parts.even.at m (omega arith))
        ∙ sym (ap (λ (o : Option MapNode). ref_by other o n) e)

kept_within : (old new : List MapNode) → PartsComeBefore old → KeepsMaps old new → (steps place n : ℕ) → place < length old → ref_within steps new place n ≡ ref_within steps old place n
unfolding ref_within
kept_within old new before keeps zero place n inside = refl
kept_within old new before keeps (suc steps) place n inside =
    kept_by old new before keeps (ref_within steps new) (ref_within steps old) place n inside (λ part m there. kept_within old new before keeps steps part m there)

-- a map that is there has what it had, among more maps
pub ref_kept : (old new : List MapNode) → PartsComeBefore old → KeepsMaps old new → (place : ℕ) → place < length old → (n : ℕ) → ref_of new place n ≡ ref_of old place n
unfolding ref_of
ref_kept old new before keeps place inside n = kept_within old new before keeps (suc n) place n inside

-- a node that goes last
pub last_node : (nodes : List MapNode) (node : MapNode) → slice_get (nodes ++ node ∷ []) (length nodes) ≡ Some node
last_node [] node = refl
last_node (first ∷ nodes) node = last_node nodes node

pub more_nodes : (nodes : List MapNode) (last : MapNode) → KeepsMaps nodes (nodes ++ last ∷ [])
more_nodes [] last place node e = absurd (cc)
more_nodes (first ∷ nodes) last zero node e = e
more_nodes (first ∷ nodes) last (suc place) node e = more_nodes nodes last place node e

-- what holds of the nodes at their places holds where one more goes last
pub each_more : (P : ℕ → MapNode → Type 0) (nodes : List MapNode) (last : MapNode) → ((place : ℕ) (node : MapNode) → slice_get nodes place ≡ Some node → P place node) → P (length nodes) last
    → (place : ℕ) (node : MapNode) → slice_get (nodes ++ last ∷ []) place ≡ Some node → P place node
each_more P [] last each own zero node e = subst (P zero) (same_Some last node e) own
each_more P [] last each own (suc place) node e = absurd (cc)
each_more P (first ∷ nodes) last each own zero node e = each zero node e
each_more P (first ∷ nodes) last each own (suc place) node e = each_more (λ k n. P (suc k) n) nodes last (λ k n f. each (suc k) n f) own place node e
