-- What parts give, gathered one after another, is what each kind of part gives at most once.
use Rattle.std.proofs.Common.{◌≡◌, ◌∙◌, ℕ, List, [], ◌∷◌, Option, None, Some, refl, ap, sym}
use Rattle.std.specs.Prelude.{option_and_then, flat_map}
use Rattle.command_words.specs.declared.options.Format.{Format}
use Rattle.command_words.specs.declared.name.Name.TheVariants.{Workers, Format as LineFormat, Decl}
use Rattle.command_words.specs.Command.{Part, Given, Alone, Source, at_most_one, workers_in, format_in, decl_in, alone_in, workers_of, format_of, source_of, together, said, parts, command}
use Rattle.command_words.specs.Given.{Texts, nothing, gathered, put, said_by}

-- one text at most: the one that is there, or the one of a list
abbrev pub in_all : Option (List ℕ) → List (List ℕ) → Option (Option (List ℕ))
in_all None texts = at_most_one texts
in_all (Some text) [] = Some (Some text)
in_all (Some text) (more ∷ texts) = None

in_none : (o : Option (List ℕ)) → in_all o [] ≡ Some o
in_none None = refl
in_none (Some text) = refl

put_in : (o : Option (List ℕ)) (text : List ℕ) (rest : List (List ℕ)) → in_all o (text ∷ rest) ≡ option_and_then (λ x. in_all x rest) (put o text)
put_in None text [] = refl
put_in None text (more ∷ rest) = refl
put_in (Some before) text rest = refl

-- the texts together, if each is there at most once
abbrev pub texts : Option (Option (List ℕ)) → Option (Option (List ℕ)) → Option (Option (List ℕ)) → Option (Option (List ℕ)) → Option Texts
texts (Some workers) (Some format) (Some decl) (Some alone) = Some (record { workers = workers; format = format; decl = decl; alone = alone })
texts _ _ _ _ = None

no_format : (w d a : Option (Option (List ℕ))) → texts w None d a ≡ None
no_format None d a = refl
no_format (Some w) d a = refl

no_decl : (w f a : Option (Option (List ℕ))) → texts w f None a ≡ None
no_decl None f a = refl
no_decl (Some w) None a = refl
no_decl (Some w) (Some f) a = refl

no_word : (w f d : Option (Option (List ℕ))) → texts w f d None ≡ None
no_word None f d = refl
no_word (Some w) None d = refl
no_word (Some w) (Some f) None = refl
no_word (Some w) (Some f) (Some d) = refl

abbrev pub by_kind : Texts → List Part → Option Texts
by_kind g all = texts (in_all g.workers (flat_map workers_in all)) (in_all g.format (flat_map format_in all)) (in_all g.decl (flat_map decl_in all)) (in_all g.alone (flat_map alone_in all))

abbrev pub IsByKind : List Part → Type 0
IsByKind all = (g : Texts) → gathered g all ≡ by_kind g all

workers_first : (value : List ℕ) (rest : List Part) → IsByKind rest → (g : Texts) (o : Option (Option (List ℕ))) → put g.workers value ≡ o → gathered g (Given Workers value ∷ rest) ≡ by_kind g (Given Workers value ∷ rest)
workers_first value rest h g None e = rw (put_in g.workers value (flat_map workers_in rest), e) refl
workers_first value rest h g (Some o) e = rw (put_in g.workers value (flat_map workers_in rest), e) (h (record g { workers = o }))

format_first : (value : List ℕ) (rest : List Part) → IsByKind rest → (g : Texts) (o : Option (Option (List ℕ))) → put g.format value ≡ o → gathered g (Given LineFormat value ∷ rest) ≡ by_kind g (Given LineFormat value ∷ rest)
format_first value rest h g None e = rw (put_in g.format value (flat_map format_in rest), e) (sym (no_format _ _ _))
format_first value rest h g (Some o) e = rw (put_in g.format value (flat_map format_in rest), e) (h (record g { format = o }))

decl_first : (value : List ℕ) (rest : List Part) → IsByKind rest → (g : Texts) (o : Option (Option (List ℕ))) → put g.decl value ≡ o → gathered g (Given Decl value ∷ rest) ≡ by_kind g (Given Decl value ∷ rest)
decl_first value rest h g None e = rw (put_in g.decl value (flat_map decl_in rest), e) (sym (no_decl _ _ _))
decl_first value rest h g (Some o) e = rw (put_in g.decl value (flat_map decl_in rest), e) (h (record g { decl = o }))

alone_first : (word : List ℕ) (rest : List Part) → IsByKind rest → (g : Texts) (o : Option (Option (List ℕ))) → put g.alone word ≡ o → gathered g (Alone word ∷ rest) ≡ by_kind g (Alone word ∷ rest)
alone_first word rest h g None e = rw (put_in g.alone word (flat_map alone_in rest), e) (sym (no_word _ _ _))
alone_first word rest h g (Some o) e = rw (put_in g.alone word (flat_map alone_in rest), e) (h (record g { alone = o }))

pub gathered_by_kind : (all : List Part) → IsByKind all
gathered_by_kind [] g = rw (in_none g.workers, in_none g.format, in_none g.decl, in_none g.alone) refl
gathered_by_kind (Given Workers value ∷ rest) g = workers_first value rest (gathered_by_kind rest) g (put g.workers value) refl
gathered_by_kind (Given LineFormat value ∷ rest) g = format_first value rest (gathered_by_kind rest) g (put g.format value) refl
gathered_by_kind (Given Decl value ∷ rest) g = decl_first value rest (gathered_by_kind rest) g (put g.decl value) refl
gathered_by_kind (Alone word ∷ rest) g = alone_first word rest (gathered_by_kind rest) g (put g.alone word) refl

no_lines : (w : Option ℕ) (d : Option (Option (List ℕ))) (s : Option Source) → together w None d s ≡ None
no_lines None d s = refl
no_lines (Some w) d s = refl

no_file : (w : Option ℕ) (f : Option Format) (s : Option Source) → together w f None s ≡ None
no_file None f s = refl
no_file (Some w) None s = refl
no_file (Some w) (Some f) s = refl

no_source : (w : Option ℕ) (f : Option Format) (d : Option (Option (List ℕ))) → together w f d None ≡ None
no_source None f d = refl
no_source (Some w) None d = refl
no_source (Some w) (Some f) None = refl
no_source (Some w) (Some f) (Some d) = refl

said_of : (w f d a : Option (Option (List ℕ))) → together (option_and_then workers_of w) (option_and_then format_of f) d (option_and_then source_of a) ≡ option_and_then said_by (texts w f d a)
said_of None f d a = refl
said_of (Some w) None d a = no_lines (workers_of w) d (option_and_then source_of a)
said_of (Some w) (Some f) None a = no_file (workers_of w) (format_of f) (option_and_then source_of a)
said_of (Some w) (Some f) (Some d) None = no_source (workers_of w) (format_of f) (Some d)
said_of (Some w) (Some f) (Some d) (Some a) = refl

pub said_is : (all : List Part) → said all ≡ option_and_then said_by (gathered nothing all)
said_is all = said_of (at_most_one (flat_map workers_in all)) (at_most_one (flat_map format_in all)) (at_most_one (flat_map decl_in all)) (at_most_one (flat_map alone_in all)) ∙ ap (option_and_then said_by) (sym (gathered_by_kind all nothing))

-- what words say, by what they give
pub said_all : (words : List (List ℕ)) (g : Option Texts) → option_and_then (gathered nothing) (parts words) ≡ g → command words ≡ option_and_then said_by g
said_all words g e = by_parts (parts words) ∙ ap (option_and_then said_by) e
  where
    by_parts : (all : Option (List Part)) → option_and_then said all ≡ option_and_then said_by (option_and_then (gathered nothing) all)
    by_parts None = refl
    by_parts (Some all) = said_is all
