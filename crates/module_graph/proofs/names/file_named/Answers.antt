use Rattle.std.proofs.Common.{◌≡◌, ◌∙◌, ◌++◌, ◌∷◌, [], sym, ap, List, ℕ, append_assoc}
use Rattle.std.specs.Prelude.{Option, Some, None, codes}
use Rattle.std.specs.List.{position}
use Rattle.std.specs.Str.{bytes_eq}
use Rattle.module_graph.proofs.Finding.{named-first, named-second}
use Rattle.module_graph.proofs.Lists.{none-from_not}
use Rattle.module_graph.proofs.names.file_named.Goals as goal

pub returns-in-Some : goal.returns-in-Some
returns-in-Some c =
    let path : c.deref.result.now ≡ c.args.name.items ++ codes ".lua" = c.deref.ensures.value ∙ c.in_ok-extend_from_slice.ensures.items in
    sym (named-first c.args.files.now c.requires c.args.name.items c.in-Some.found
    (sym (c.in-Some.ensures ∙ ap (λ (q : List ℕ). position (λ file. bytes_eq file.path q) c.args.files.now) path)))

pub returns : goal.returns
returns c =
    let path : c.deref.result.now ≡ c.args.name.items ++ codes ".lua" = c.deref.ensures.value ∙ c.in_ok-extend_from_slice.ensures.items in
    let second : c.deref-2.result.now ≡ c.args.name.items ++ codes ".luau" =
    c.deref-2.ensures.value ∙ (c.in_ok-push.ensures.items ∙ (ap (λ (l : List ℕ). l ++ 117 ∷ []) c.in_ok-extend_from_slice.ensures.items ∙ append_assoc c.args.name.items (codes ".lua") (117 ∷ []))) in
    let none : position (λ file. bytes_eq file.path (c.args.name.items ++ codes ".lua")) c.args.files.now ≡ None =
    sym (c.file_at.ensures ∙ ap (λ (q : List ℕ). position (λ file. bytes_eq file.path q) c.args.files.now) path) ∙ none-from_not c.file_at.result c.in_default.not-Some in
    sym (named-second c.args.files.now c.requires c.args.name.items c.file_at-2.result none
    (sym (c.file_at-2.ensures ∙ ap (λ (q : List ℕ). position (λ file. bytes_eq file.path q) c.args.files.now) second)))
