-- References that mean some types in an arena, and in whatever grows from it.
use Rattle.std.proofs.Common.{◌≡◌, ℕ, ◌+◌, ◌<◌, List, [], ◌∷◌, ◌++◌, map, length, get_or, take, refl, sym, ap, ◌∙◌, subst}
use Rattle.std.specs.Prelude.{All, Option, Some, is_some, option_map, IsTrue}
use Rattle.std.proofs.lemmas.List.{map-append, take_more}
use Rattle.std.proofs.lemmas.List.Elements.{All-append, All-cons, All-nil}
use Rattle.type_arena.specs.Arena.{store_of}
use Rattle.type_arena.specs.Meaning.{term_of}
use Rattle.type_arena.specs.Store.{Store, node_at, has, Keeps}
use Rattle.type_arena.specs.Term.{Term}
use Rattle.type_arena.specs.declared.arena.Arena.{Arena}
use Rattle.type_arena.specs.declared.node.Node.{Node}
use Rattle.type_arena.specs.declared.node.TypeRef.{TypeRef}
use Rattle.type_arena.proofs.MeaningLemmas.{term_of-kept}
use Rattle.builtin_table.specs.Standard.{Declared}
use Rattle.type_decl.specs.Signatures.{Signature, term_of_kinds, signature_of}
use Rattle.type_decl.specs.Tables.{Grew, Mean, MeanMaybe, IsMeant, AreMeant, AreThere, list_of, refs_in, meant}
use Rattle.type_decl.specs.declared.sig.Sig.{Sig}

pub keeps_both : (a b c : Store) → Keeps a b → Keeps b c → Keeps a c
keeps_both a b c first second = λ at node e. second at node (first at node e)

pub grew_nothing : (arena : Arena) → Grew arena arena
grew_nothing arena = record { below = refl; home = refl; keeps = λ at node e. e }

pub grew_both : (a b c : Arena) → Grew a b → Grew b c → Grew a c
grew_both a b c first second = record {
  below = second.below ∙ first.below;
  home = second.home ∙ first.home;
  keeps = keeps_both (store_of a) (store_of b) (store_of c) first.keeps second.keeps;
}

pub mean_none : (arena : Arena) → Mean arena [] []
mean_none arena = record {
  there = λ later k. All-nil (λ at. IsTrue (has (store_of later) at));
  means = λ later k. refl;
}

pub mean_one : (arena : Arena) (at : TypeRef) (node : Node) (type : Term) → node_at (store_of arena) at ≡ Some node → term_of (store_of arena) at ≡ type → Mean arena (at ∷ []) (type ∷ [])
mean_one arena at node type e m = record {
  there = λ later k. All-cons (λ x. IsTrue (has (store_of later) x)) at [] (ap is_some (k at node e)) (All-nil (λ x. IsTrue (has (store_of later) x)));
  means = λ later k. ap (λ (t : Term). t ∷ []) (sym (term_of-kept (store_of arena) (store_of later) arena.sound later.sound k at (ap is_some e)) ∙ m);
}

pub mean_later : (old new : Arena) (refs : List TypeRef) (types : List Term) → Keeps (store_of old) (store_of new) → Mean old refs types → Mean new refs types
mean_later old new refs types keeps m = record {
  there = λ later k. m.there later (keeps_both (store_of old) (store_of new) (store_of later) keeps k);
  means = λ later k. m.means later (keeps_both (store_of old) (store_of new) (store_of later) keeps k);
}

pub mean_both : (arena : Arena) (refs others : List TypeRef) (types more : List Term) → Mean arena refs types → Mean arena others more → Mean arena (refs ++ others) (types ++ more)
mean_both arena refs others types more m n = record {
  there = λ later k. All-append (λ at. IsTrue (has (store_of later) at)) refs others (m.there later k) (n.there later k);
  means = λ later k. map-append (term_of (store_of later)) refs others ∙ (λ i. m.means later k i ++ n.means later k i);
}

-- one more reference behind some
pub mean_more : {X : Type 0} (type_of : X → Term) (old new : Arena) (refs all : List TypeRef) (at : TypeRef) (xs : List X) (i : ℕ) (x : X) → i < length xs → x ≡ get_or xs i x → Keeps (store_of old) (store_of new)
    → Mean old refs (map type_of (take i xs)) → Mean new (at ∷ []) (type_of x ∷ []) → all ≡ refs ++ at ∷ [] → Mean new all (map type_of (take (i + 1) xs))
mean_more type_of old new refs all at xs i x l is keeps m n e =
    let types : map type_of (take i xs) ++ type_of x ∷ [] ≡ map type_of (take (i + 1) xs) =
    sym (ap (map type_of) (take_more xs i x l) ∙ map-append type_of (take i xs) (get_or xs i x ∷ []) ∙ ap (λ y. map type_of (take i xs) ++ type_of y ∷ []) (sym is)) in
    subst (λ ts. Mean new all ts) types
    (subst (λ rs. Mean new rs (map type_of (take i xs) ++ type_of x ∷ [])) (sym e)
    (mean_both new refs (at ∷ []) (map type_of (take i xs)) (type_of x ∷ []) (mean_later old new refs (map type_of (take i xs)) keeps m) n))

-- a `Sig` means what its parts mean
pub sig_meant : (arena : Arena) (sig : Sig) (declared : Declared) → Mean arena sig.params (map term_of_kinds declared.params) → MeanMaybe arena sig.rest (option_map term_of_kinds declared.rest)
    → Mean arena sig.results (map term_of_kinds declared.results) → MeanMaybe arena sig.more (option_map term_of_kinds declared.more) → sig.checked ≡ declared.checked → sig.quiet ≡ declared.quiet
    → IsMeant arena sig (signature_of declared)
sig_meant arena sig declared params rest results more checked quiet = record {
  there = λ later k.
      All-append (λ at. IsTrue (has (store_of later) at)) sig.params (list_of sig.rest ++ (sig.results ++ list_of sig.more)) (params.there later k)
      (All-append (λ at. IsTrue (has (store_of later) at)) (list_of sig.rest) (sig.results ++ list_of sig.more) (rest.there later k)
      (All-append (λ at. IsTrue (has (store_of later) at)) sig.results (list_of sig.more) (results.there later k) (more.there later k)));
  means = λ later k i. record {
    params = params.means later k i;
    rest = rest.means later k i;
    results = results.means later k i;
    more = more.means later k i;
    checked = checked i;
    quiet = quiet i;
  };
}

pub maybe_later : (old new : Arena) (at : Option TypeRef) (type : Option Term) → Keeps (store_of old) (store_of new) → MeanMaybe old at type → MeanMaybe new at type
maybe_later old new at type keeps m = record {
  there = λ later k. m.there later (keeps_both (store_of old) (store_of new) (store_of later) keeps k);
  means = λ later k. m.means later (keeps_both (store_of old) (store_of new) (store_of later) keeps k);
}

-- one more `Sig` behind some
pub sigs_more : {X : Type 0} (signature : X → Signature) (old new : Arena) (sigs all : List Sig) (sig : Sig) (xs : List X) (i : ℕ) (x : X) → i < length xs → x ≡ get_or xs i x → Keeps (store_of old) (store_of new)
    → AreMeant old sigs (map signature (take i xs)) → IsMeant new sig (signature x) → all ≡ sigs ++ sig ∷ [] → AreMeant new all (map signature (take (i + 1) xs))
sigs_more signature old new sigs all sig xs i x l is keeps m n e = record {
  there = λ later k.
      subst (λ (ss : List Sig). AreThere (store_of later) ss) (sym e)
      (All-append (λ (s : Sig). All (λ at. IsTrue (has (store_of later) at)) (refs_in s)) sigs (sig ∷ []) (m.there later (keeps_both (store_of old) (store_of new) (store_of later) keeps k))
      (All-cons (λ (s : Sig). All (λ at. IsTrue (has (store_of later) at)) (refs_in s)) sig [] (n.there later k) (All-nil (λ (s : Sig). All (λ at. IsTrue (has (store_of later) at)) (refs_in s)))));
  means = λ later k.
      ap (map (meant (term_of (store_of later)))) e
      ∙ map-append (meant (term_of (store_of later))) sigs (sig ∷ [])
      ∙ (λ j. m.means later (keeps_both (store_of old) (store_of new) (store_of later) keeps k) j ++ n.means later k j ∷ [])
      ∙ sym (ap (map signature) (take_more xs i x l) ∙ map-append signature (take i xs) (get_or xs i x ∷ []) ∙ ap (λ y. map signature (take i xs) ++ signature y ∷ []) (sym is));
}
