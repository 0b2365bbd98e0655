-- The standard table as it is built.
use Rattle.std.proofs.Common.{◌≡◌, ℕ, ◌+◌, ◌<◌, List, [], ◌∷◌, ◌++◌, map, length, get_or, take, refl, sym, ap, ◌∙◌, subst, Bor}
use Rattle.std.proofs.Math.Seq.{take-length}
use Rattle.std.specs.Prelude.{zip}
use Rattle.std.proofs.lemmas.List.{length-map, map-append, take_more}
use Rattle.luau_tree.specs.Sorted.{IsAscending}
use Rattle.builtin_table.specs.Standard.{standard, standard_paths, declared_by}
use Rattle.builtin_table.specs.declared.table.Line.{Line}
use Rattle.type_arena.specs.Arena.{home_of, nodes_of, below_of, store_of}
use Rattle.type_arena.specs.Frozen.{holding_of}
use Rattle.type_arena.specs.Meaning.{term_of}
use Rattle.type_arena.specs.Store.{Holding, IsSound, Store}
use Rattle.type_arena.specs.declared.arena.Arena.{Arena}
use Rattle.type_arena.specs.declared.frozen.Frozen.{Frozen}
use Rattle.type_decl.specs.Signatures.{signature_of, standard_table}
use Rattle.type_decl.specs.Tables.{alone, AreThere, meant, declared_in}
use Rattle.type_decl.specs.declared.sig.Sig.{Sig}

abbrev pub Entry : Type 0
Entry = Bor (List ℕ) × Line

abbrev pub plain : Entry → List ℕ × Line
plain e = (e.0.now, e.1)

firsts : (entries : List Entry) → map (λ (e : Entry). e.0.now) entries ≡ map (λ (e : List ℕ × Line). e.0) (map plain entries)
firsts [] = refl
firsts (e ∷ entries) = ap (λ ps. e.0.now ∷ ps) (firsts entries)

pub names_ascend : (entries : List Entry) (names : List (List ℕ)) → map plain entries ≡ standard → names ≡ map (λ (e : Entry). e.0.now) entries → IsAscending standard_paths → IsAscending names
unfolding standard_paths
names_ascend entries names same e asc = subst IsAscending (sym (e ∙ firsts entries ∙ ap (map (λ (x : List ℕ × Line). x.0)) same)) asc

zipped : (entries : List Entry) → zip (map (λ (e : Entry). e.0.now) entries) (map (λ (e : Entry). signature_of (declared_by e.1)) entries) ≡ map (λ (e : List ℕ × Line). (e.0, signature_of (declared_by e.1))) (map plain entries)
zipped [] = refl
zipped (e ∷ entries) = ap (λ ps. (e.0.now, signature_of (declared_by e.1)) ∷ ps) (zipped entries)

pub whole : (arena : Arena) (frozen : Frozen) (entries : List Entry) (paths names : List (List ℕ)) (sigs items : List Sig) → below_of arena ≡ [] → holding_of frozen ≡ (record { home = home_of arena; nodes = nodes_of arena })
    → map plain entries ≡ standard → names ≡ map (λ (e : Entry). e.0.now) entries → paths ≡ names → sigs ≡ items
    → map (meant (term_of (store_of arena))) items ≡ map (λ (e : Entry). signature_of (declared_by e.1)) entries → declared_in frozen paths sigs ≡ standard_table
whole arena frozen entries paths names sigs items bare held same e ep es m =
    let stores : alone frozen ≡ store_of arena = ap (λ (h : Holding). h ∷ []) held ∙ sym (ap (λ (b : Store). b ++ (record { home = home_of arena; nodes = nodes_of arena }) ∷ []) bare) in
    let p : paths ≡ map (λ (x : Entry). x.0.now) entries = ep ∙ e in
    let q : map (meant (term_of (alone frozen))) sigs ≡ map (λ (x : Entry). signature_of (declared_by x.1)) entries =
    ap (λ st. map (meant (term_of st)) sigs) stores ∙ ap (map (meant (term_of (store_of arena)))) es ∙ m in
    (λ i. zip (p i) (q i)) ∙ zipped entries ∙ ap (map (λ (x : List ℕ × Line). (x.0, signature_of (declared_by x.1)))) same

pub as_many : {Y : Type 0} (f : Sig → Y) (g : Entry → Y) (entries : List Entry) (names : List (List ℕ)) (items : List Sig) → names ≡ map (λ (e : Entry). e.0.now) entries → map f items ≡ map g entries → length names ≡ length items
as_many f g entries names items e m =
    ap length e ∙ length-map entries (λ (x : Entry). x.0.now) ∙ sym (length-map entries g) ∙ sym (ap length m) ∙ length-map items f

pub names_more : (entries : List Entry) (i : ℕ) (d : Entry) (names all : List (List ℕ)) (name : List ℕ) → i < length entries → names ≡ map (λ (e : Entry). e.0.now) (take i entries) → name ≡ (get_or entries i d).0.now → all ≡ names ++ name ∷ []
    → all ≡ map (λ (e : Entry). e.0.now) (take (i + 1) entries)
names_more entries i d names all name l ns nm e =
    e ∙ (λ j. ns j ++ nm j ∷ [])
    ∙ sym (ap (map (λ (x : Entry). x.0.now)) (take_more entries i d l) ∙ map-append (λ (x : Entry). x.0.now) (take i entries) (get_or entries i d ∷ []))

pub at_end : {X Y : Type 0} (f : X → Y) (xs : List X) (i : ℕ) → i ≡ length xs → map f (take i xs) ≡ map f xs
at_end f xs i e = ap (λ n. map f (take n xs)) e ∙ ap (map f) (take-length xs)

pub stand : (arena : Arena) (frozen : Frozen) → below_of arena ≡ [] → holding_of frozen ≡ (record { home = home_of arena; nodes = nodes_of arena }) → alone frozen ≡ store_of arena
stand arena frozen bare held = ap (λ (h : Holding). h ∷ []) held ∙ sym (ap (λ (b : Store). b ++ (record { home = home_of arena; nodes = nodes_of arena }) ∷ []) bare)

pub sound_alone : (below : Store) (frozen : Frozen) → below ≡ [] → IsSound (below ++ holding_of frozen ∷ []) → IsSound (alone frozen)
sound_alone below frozen bare sound = subst (λ (b : Store). IsSound (b ++ holding_of frozen ∷ [])) bare sound

pub there_alone : (arena : Arena) (frozen : Frozen) (sigs items : List Sig) → alone frozen ≡ store_of arena → sigs ≡ items → AreThere (store_of arena) items → AreThere (alone frozen) sigs
there_alone arena frozen sigs items stores es there = subst (λ (st : Store). AreThere st sigs) (sym stores) (subst (λ (ss : List Sig). AreThere (store_of arena) ss) (sym es) there)
