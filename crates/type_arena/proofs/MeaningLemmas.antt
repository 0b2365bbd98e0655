-- Laws of what a reference means.
use Rattle.std.proofs.Common.{◌≡◌, ℕ, zero, suc, ◌<◌, List, [], ◌∷◌, refl, ap, sym, ◌∙◌, arith}
use Rattle.std.specs.Prelude.{Option, Some, None, is_some, IsTrue, Contains}
use Rattle.std.specs.Option.{option_map_or}
use Rattle.std.proofs.lemmas.List.Elements.{All-contains, Contains-append_left, Contains-append_right}
use Rattle.type_arena.specs.Term.{Term, term, never, free_of}
use Rattle.type_arena.specs.Store.{Store, node_at, has, field_types, row_types, refs_of, is_older, IsSound, Keeps}
use Rattle.type_arena.specs.Meaning.{fields_by, rows_by, term_by, term_within, rank, term_of}
use Rattle.type_arena.specs.Homes.{Reaches, itself, through}
use Rattle.type_arena.specs.declared.node.Node.{Node}
use Rattle.type_arena.specs.declared.node.Row.{Row}
use Rattle.type_arena.specs.declared.node.TypeRef.{TypeRef}
use Rattle.type_arena.proofs.StoreLemmas.{rank-older}

-- fields mean the same where their types do
pub fields_by-same : (f g : TypeRef → Term) (fields : List (List ℕ × TypeRef)) → ((child : TypeRef) → Contains (field_types fields) child → f child ≡ g child) → fields_by f fields ≡ fields_by g fields
fields_by-same f g [] same = refl
fields_by-same f g (field ∷ fields) same =
    let first : f field.1 ≡ g field.1 = same field.1 (Contains-append_left (field.1 ∷ []) (field_types fields) field.1 (zero, omega arith, refl)) in
    let rest : fields_by f fields ≡ fields_by g fields = fields_by-same f g fields (λ child h. same child (Contains-append_right (field.1 ∷ []) (field_types fields) child h)) in
    cc

-- and so do rows
pub rows_by-same : (f g : TypeRef → Term) (rows : List Row) → ((child : TypeRef) → Contains (row_types rows) child → f child ≡ g child) → rows_by f rows ≡ rows_by g rows
rows_by-same f g [] same = refl
rows_by-same f g (row ∷ rows) same =
    let first : fields_by f row.fields ≡ fields_by g row.fields = fields_by-same f g row.fields (λ child h. same child (Contains-append_left (field_types row.fields) (row_types rows) child h)) in
    let rest : rows_by f rows ≡ rows_by g rows = rows_by-same f g rows (λ child h. same child (Contains-append_right (field_types row.fields) (row_types rows) child h)) in
    cc

-- and nodes
pub term_by-same : (f g : TypeRef → Term) (node : Node) → ((child : TypeRef) → Contains (refs_of node) child → f child ≡ g child) → term_by f node ≡ term_by g node
term_by-same f g node same = ap (term (free_of node)) (rows_by-same f g node.rows same)

-- each child of a node in two stores has one term, followed so far in each
children-same : (first second : Store) → IsSound first → IsSound second → (k m : ℕ) (at : TypeRef) (node : Node)
    → ((child : TypeRef) → rank first child < k → rank second child < m → ((far : TypeRef) → Reaches first child far → node_at first far ≡ node_at second far) → term_within k first child ≡ term_within m second child)
    → rank first at < suc k → rank second at < suc m → ((far : TypeRef) → Reaches first at far → node_at first far ≡ node_at second far)
    → node_at first at ≡ Some node → node_at second at ≡ Some node
    → (child : TypeRef) → Contains (refs_of node) child → term_within k first child ≡ term_within m second child
children-same first second sound sound' k m at node same low low' agree e e' child inside =
    let there : IsTrue (has first child) = All-contains (λ c. IsTrue (has first c)) (refs_of node) child (sound.there at node e) inside in
    let older : IsTrue (is_older child at) = All-contains (λ c. IsTrue (is_older c at)) (refs_of node) child (sound.older at node e) inside in
    let there' : IsTrue (has second child) = All-contains (λ c. IsTrue (has second c)) (refs_of node) child (sound'.there at node e') inside in
    let below : rank first child < rank first at = rank-older first child at there older in
    let below' : rank second child < rank second at = rank-older second child at there' older in
    same child (omega arith) (omega arith) (λ far reached. agree far (through node e inside reached))

-- so the node has one term
step-same : (first second : Store) → IsSound first → IsSound second → (k m : ℕ) (at : TypeRef)
    → ((child : TypeRef) → rank first child < k → rank second child < m → ((far : TypeRef) → Reaches first child far → node_at first far ≡ node_at second far) → term_within k first child ≡ term_within m second child)
    → rank first at < suc k → rank second at < suc m → ((far : TypeRef) → Reaches first at far → node_at first far ≡ node_at second far)
    → option_map_or (term_by (term_within k first)) (node_at first at) never ≡ option_map_or (term_by (term_within m second)) (node_at second at) never
step-same first second sound sound' k m at same low low' agree = go (node_at first at) refl
  where
    go : (found : Option Node) → node_at first at ≡ found → option_map_or (term_by (term_within k first)) (node_at first at) never ≡ option_map_or (term_by (term_within m second)) (node_at second at) never
    go None e = rw (e, (sym (agree at itself) ∙ e)) refl
    go (Some node) e =
        let e' : node_at second at ≡ Some node = sym (agree at itself) ∙ e in
        rw (e, e') (term_by-same (term_within k first) (term_within m second) node (children-same first second sound sound' k m at node same low low' agree e e'))

-- in stores that agree on what is reached from a reference, it has one term, followed far enough in each
pub term_within-same : (first second : Store) → IsSound first → IsSound second → (k m : ℕ) (at : TypeRef) → rank first at < k → rank second at < m → ((far : TypeRef) → Reaches first at far → node_at first far ≡ node_at second far) → term_within k first at ≡ term_within m second at
unfolding term_within
term_within-same first second sound sound' zero m at low low' agree = absurd (omega arith)
term_within-same first second sound sound' (suc k) zero at low low' agree = absurd (omega arith)
term_within-same first second sound sound' (suc k) (suc m) at low low' agree = step-same first second sound sound' k m at (λ child. term_within-same first second sound sound' k m child) low low' agree

-- a reference means the same in stores that agree on what is reached from it
pub term_of-same : (first second : Store) → IsSound first → IsSound second → (at : TypeRef) → ((far : TypeRef) → Reaches first at far → node_at first far ≡ node_at second far) → term_of first at ≡ term_of second at
unfolding term_of
term_of-same first second sound sound' at agree = term_within-same first second sound sound' (suc (rank first at)) (suc (rank second at)) at (omega arith) (omega arith) agree

-- a reference means the term of its node, in which each reference stands for what it means
pub term_of-node : (store : Store) → IsSound store → (at : TypeRef) (node : Node) → node_at store at ≡ Some node → term_of store at ≡ term_by (term_of store) node
unfolding term_of term_within
term_of-node store sound at node e =
    rw e (term_by-same (term_within (rank store at) store) (term_of store) node (λ child inside.
    let there : IsTrue (has store child) = All-contains (λ c. IsTrue (has store c)) (refs_of node) child (sound.there at node e) inside in
    let older : IsTrue (is_older child at) = All-contains (λ c. IsTrue (is_older c at)) (refs_of node) child (sound.older at node e) inside in
    let below : rank store child < rank store at = rank-older store child at there older in
    term_within-same store store sound sound (rank store at) (suc (rank store child)) child below (omega arith) (λ far reached. refl)))

-- what is reached from a reference that is there is there
pub Reaches-there : (store : Store) → IsSound store → {at far : TypeRef} → Reaches store at far → IsTrue (has store at) → IsTrue (has store far)
Reaches-there store sound itself there = there
Reaches-there store sound (through {child = child} node e inside rest) there =
    Reaches-there store sound rest (All-contains (λ c. IsTrue (has store c)) (refs_of node) child (sound.there _ node e) inside)

-- a store that keeps the nodes of another one has the references that are there
pub has-kept : (old new : Store) → Keeps old new → (at : TypeRef) → IsTrue (has old at) → node_at old at ≡ node_at new at
has-kept old new keeps at there = go (node_at old at) refl there
  where
    go : (found : Option Node) → node_at old at ≡ found → IsTrue (is_some found) → node_at old at ≡ node_at new at
    go None e there = cc
    go (Some node) e there = e ∙ sym (keeps at node e)

-- and in it they mean the same
pub term_of-kept : (old new : Store) → IsSound old → IsSound new → Keeps old new → (at : TypeRef) → IsTrue (has old at) → term_of old at ≡ term_of new at
term_of-kept old new sound sound' keeps at there =
    term_of-same old new sound sound' at (λ far reached. has-kept old new keeps far (Reaches-there old sound reached there))
