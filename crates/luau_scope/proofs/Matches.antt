-- Findings match nodes: the uses are those of names and some other expressions, and what is declared is what is bound.
use Rattle.std.proofs.Common.{◌≡◌, ℕ, ◌+◌, Bool, true, false, List, [], ◌∷◌, ◌++◌, map, refl, sym, ap, ◌∙◌, subst}
use Rattle.std.specs.Prelude.{Option, Some, None, if◌then◌else◌}
use Rattle.std.proofs.lemmas.List.{append-nil}
use Rattle.luau_tree.specs.declared.position.Span.{Span}
use Rattle.luau_tree.specs.Tree.{Expr, the_expr, NameExpr, Binds, no_binds, more_binds}
use Rattle.luau_tree.specs.Nodes.{Node, AnExpr, ABody, ABind, exprs_among, binds_among, expr_number}
use Rattle.luau_scope.specs.declared.refusal.Refusal.{Refusal}
use Rattle.luau_scope.specs.Found.{Found, Declares, Means, Captures, Assigns, RequiresModule, Continues, Refuses, declarations, Part, join, Visible, Around, Loop, NoLoop, RepeatLoop, OtherLoop}
use Rattle.luau_scope.specs.Finds.{refused, refused_if, aimed, assigned, local_of, kind_of, span_of, named_function, of_entry, of_entries, declared_span, of_break, of_continue, without_continues, past_locals, uses_between, of_repeat}
use Rattle.luau_scope.specs.Laws.{Within, none, both, left_out, name_numbers, bind_name_and_span}

-- the numbers of the expressions that have a use, and what is declared
abbrev pub met : List Found → List ℕ
met [] = []
met (Means at meaning ∷ found) = at.0 ∷ met found
met (other ∷ found) = met found

abbrev pub declared : List Found → List (List ℕ × Span)
declared [] = []
declared (Declares name span function given ∷ found) = (name, span) ∷ declared found
declared (other ∷ found) = declared found

abbrev pub ids : List Node → List ℕ
ids nodes = map expr_number (exprs_among nodes)

abbrev pub named : List Node → List ℕ
named nodes = name_numbers (exprs_among nodes)

abbrev pub bound : List Node → List (List ℕ × Span)
bound nodes = map bind_name_and_span (binds_among nodes)

pub record Match (nodes : List Node) (found : List Found) : Type 0 where
  pub names : Within (named nodes) (met found)
  pub numbers : Within (met found) (ids nodes)
  pub binds : declared found ≡ bound nodes

within_append : {xs ys us vs : List ℕ} → Within xs ys → Within us vs → Within (xs ++ us) (ys ++ vs)
within_append none w = w
within_append (both x v) w = both x (within_append v w)
within_append (left_out y v) w = left_out y (within_append v w)

exprs_append : (xs ys : List Node) → exprs_among (xs ++ ys) ≡ exprs_among xs ++ exprs_among ys
exprs_append [] ys = refl
exprs_append (AnExpr e ∷ xs) ys = ap (λ (es : List Expr). e ∷ es) (exprs_append xs ys)
exprs_append (ABody body ∷ xs) ys = exprs_append xs ys
exprs_append (ABind bind ∷ xs) ys = exprs_append xs ys

ids_append : (xs ys : List Node) → ids (xs ++ ys) ≡ ids xs ++ ids ys
ids_append [] ys = refl
ids_append (AnExpr e ∷ xs) ys = ap (λ (ns : List ℕ). expr_number e ∷ ns) (ids_append xs ys)
ids_append (ABody body ∷ xs) ys = ids_append xs ys
ids_append (ABind bind ∷ xs) ys = ids_append xs ys

names_append : (es fs : List Expr) → name_numbers (es ++ fs) ≡ name_numbers es ++ name_numbers fs
names_append [] fs = refl
names_append (the_expr id span (NameExpr name) ∷ es) fs = ap (λ (ns : List ℕ). id ∷ ns) (names_append es fs)
names_append (the_expr id span other ∷ es) fs = names_append es fs

named_append : (xs ys : List Node) → named (xs ++ ys) ≡ named xs ++ named ys
named_append xs ys = ap name_numbers (exprs_append xs ys) ∙ names_append (exprs_among xs) (exprs_among ys)

bound_append : (xs ys : List Node) → bound (xs ++ ys) ≡ bound xs ++ bound ys
bound_append [] ys = refl
bound_append (AnExpr e ∷ xs) ys = bound_append xs ys
bound_append (ABody body ∷ xs) ys = bound_append xs ys
bound_append (ABind bind ∷ xs) ys = ap (λ (bs : List (List ℕ × Span)). bind_name_and_span bind ∷ bs) (bound_append xs ys)

met_append : (xs ys : List Found) → met (xs ++ ys) ≡ met xs ++ met ys
met_append [] ys = refl
met_append (Means at meaning ∷ xs) ys = ap (λ (ns : List ℕ). at.0 ∷ ns) (met_append xs ys)
met_append (Declares name span function given ∷ xs) ys = met_append xs ys
met_append (Captures local ∷ xs) ys = met_append xs ys
met_append (Assigns local ∷ xs) ys = met_append xs ys
met_append (RequiresModule site ∷ xs) ys = met_append xs ys
met_append (Continues at before ∷ xs) ys = met_append xs ys
met_append (Refuses why at ∷ xs) ys = met_append xs ys

declared_append : (xs ys : List Found) → declared (xs ++ ys) ≡ declared xs ++ declared ys
declared_append [] ys = refl
declared_append (Declares name span function given ∷ xs) ys = ap (λ (bs : List (List ℕ × Span)). (name, span) ∷ bs) (declared_append xs ys)
declared_append (Means at meaning ∷ xs) ys = declared_append xs ys
declared_append (Captures local ∷ xs) ys = declared_append xs ys
declared_append (Assigns local ∷ xs) ys = declared_append xs ys
declared_append (RequiresModule site ∷ xs) ys = declared_append xs ys
declared_append (Continues at before ∷ xs) ys = declared_append xs ys
declared_append (Refuses why at ∷ xs) ys = declared_append xs ys

pub match_append : (xs ys : List Node) (f g : List Found) → Match xs f → Match ys g → Match (xs ++ ys) (f ++ g)
match_append xs ys f g m k = record {
  names = rw (named_append xs ys, met_append f g) (within_append m.names k.names);
  numbers = rw (met_append f g, ids_append xs ys) (within_append m.numbers k.numbers);
  binds = declared_append f g ∙ ap (λ (bs : List (List ℕ × Span)). bs ++ declared g) m.binds
      ∙ ap (λ (bs : List (List ℕ × Span)). bound xs ++ bs) k.binds ∙ sym (bound_append xs ys);
}

pub match_join : (xs ys : List Node) (p q : Part) (n : ℕ) → Match xs (p n) → ((m : ℕ) → Match ys (q m)) → Match (xs ++ ys) (join p q n)
unfolding join
match_join xs ys p q n m k = match_append xs ys (p n) (q (n + declarations (p n))) m (k (n + declarations (p n)))

-- a part in which no name is used and nothing is declared, at the end
pub match_then_quiet : (xs : List Node) (p q : Part) (n : ℕ) → Match xs (p n) → ((m : ℕ) → Match [] (q m)) → Match xs (join p q n)
match_then_quiet xs p q n m k = let P : List Node → Type 0 = λ ns. Match ns (join p q n) in subst P (append-nil xs) (match_join xs [] p q n m k)

-- a node that is neither a name nor a declaration
pub around_node : (e : Node) (ns : List Node) (f : List Found) (id : ℕ) → named (e ∷ ns) ≡ named ns → ids (e ∷ ns) ≡ id ∷ ids ns → bound (e ∷ ns) ≡ bound ns → Match ns f → Match (e ∷ ns) f
around_node e ns f id a b c m = record {
  names = rw a m.names;
  numbers = rw b (left_out id m.numbers);
  binds = m.binds ∙ sym c;
}

pub quiet_nothing : Match [] []
quiet_nothing = record { names = none; numbers = none; binds = refl }

pub quiet_refused : (o : Option Refusal) (at : Span) (n : ℕ) → Match [] (refused o at n)
quiet_refused None at n = quiet_nothing
quiet_refused (Some why) at n = record { names = none; numbers = none; binds = refl }

pub quiet_refused_if : (b : Bool) (why : Refusal) (at : Span) (n : ℕ) → Match [] (refused_if b why at n)
quiet_refused_if true why at n = record { names = none; numbers = none; binds = refl }
quiet_refused_if false why at n = quiet_nothing

quiet_assigned : (earlier : List ℕ) (v : Option Visible) (at : Span) (n : ℕ) → Match [] (assigned earlier v at n)
quiet_assigned earlier None at n = quiet_nothing
quiet_assigned earlier (Some v) at n = match_join [] [] _ _ n (record { names = none; numbers = none; binds = refl }) (λ m. quiet_refused_if _ _ _ m)

pub quiet_aimed : (a : Around) (earlier : List ℕ) (e : Expr) (n : ℕ) → Match [] (aimed a earlier e n)
quiet_aimed a earlier e n = match_join [] [] _ _ n (quiet_refused_if _ _ _ n) (λ m. quiet_assigned earlier (local_of a (kind_of e)) (span_of e) m)

pub quiet_named_function : (a : Around) (path : Expr) (method : Option (List ℕ)) (n : ℕ) → Match [] (named_function a path method n)
quiet_named_function a path None n = quiet_aimed a [] path n
quiet_named_function a path (Some method) n = quiet_refused_if _ _ _ n

pub quiet_entry : (own : ℕ) (at : Span) (n : ℕ) → Match [] (of_entry own at n)
quiet_entry own at n = quiet_refused_if _ _ _ n

pub quiet_entries : (own : ℕ) (bs : Binds) (n : ℕ) → Match [] (of_entries own bs n)
quiet_entries own no_binds n = quiet_nothing
quiet_entries own (more_binds bind rest) n = match_join [] [] _ _ n (quiet_entry own (declared_span bind) n) (λ m. quiet_entries (own + 1) rest m)

pub quiet_break : (loop : Loop) (at : Span) (n : ℕ) → Match [] (of_break loop at n)
quiet_break NoLoop at n = record { names = none; numbers = none; binds = refl }
quiet_break RepeatLoop at n = quiet_nothing
quiet_break OtherLoop at n = quiet_nothing

pub quiet_continue : (loop : Loop) (at : Span) (n : ℕ) → Match [] (of_continue loop at n)
quiet_continue NoLoop at n = record { names = none; numbers = none; binds = refl }
quiet_continue RepeatLoop at n = record { names = none; numbers = none; binds = refl }
quiet_continue OtherLoop at n = quiet_nothing

met_without : (f : List Found) → met (without_continues f) ≡ met f
met_without [] = refl
met_without (Means at meaning ∷ f) = ap (λ (ns : List ℕ). at.0 ∷ ns) (met_without f)
met_without (Declares name span function given ∷ f) = met_without f
met_without (Captures local ∷ f) = met_without f
met_without (Assigns local ∷ f) = met_without f
met_without (RequiresModule site ∷ f) = met_without f
met_without (Continues at before ∷ f) = met_without f
met_without (Refuses why at ∷ f) = met_without f

declared_without : (f : List Found) → declared (without_continues f) ≡ declared f
declared_without [] = refl
declared_without (Declares name span function given ∷ f) = ap (λ (bs : List (List ℕ × Span)). (name, span) ∷ bs) (declared_without f)
declared_without (Means at meaning ∷ f) = declared_without f
declared_without (Captures local ∷ f) = declared_without f
declared_without (Assigns local ∷ f) = declared_without f
declared_without (RequiresModule site ∷ f) = declared_without f
declared_without (Continues at before ∷ f) = declared_without f
declared_without (Refuses why at ∷ f) = declared_without f

quiet_if : (b : Bool) (at : Span) (why : Refusal) (f : List Found) → Match [] f → Match [] ((if b then Refuses why at ∷ [] else []) ++ f)
quiet_if true at why f m = match_append [] [] (Refuses why at ∷ []) f (record { names = none; numbers = none; binds = refl }) m
quiet_if false at why f m = m

quiet_past : (f until : List Found) (k : ℕ) → Match [] (past_locals f until k)
quiet_past [] until k = quiet_nothing
quiet_past (Continues at before ∷ f) until k = quiet_if (uses_between before k until) at _ _ (quiet_past f until k)
quiet_past (Means at meaning ∷ f) until k = quiet_past f until k
quiet_past (Declares name span function given ∷ f) until k = quiet_past f until k
quiet_past (Captures local ∷ f) until k = quiet_past f until k
quiet_past (Assigns local ∷ f) until k = quiet_past f until k
quiet_past (RequiresModule site ∷ f) until k = quiet_past f until k
quiet_past (Refuses why at ∷ f) until k = quiet_past f until k

pub match_repeat : (xs ys : List Node) (body until : List Found) (k : ℕ) → Match xs body → Match ys until → Match (xs ++ ys) (of_repeat body until k)
match_repeat xs ys body until k m u =
    let w : Match xs (without_continues body) = record {
      names = rw (met_without body) m.names;
      numbers = rw (met_without body) m.numbers;
      binds = declared_without body ∙ m.binds;
    } in
    let P : List Node → Type 0 = λ ns. Match ns (until ++ past_locals body until k) in
    match_append xs ys (without_continues body) (until ++ past_locals body until k) w
    (subst P (append-nil ys) (match_append ys [] until (past_locals body until k) u (quiet_past body until k)))
