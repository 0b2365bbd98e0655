-- The files of a folder make a graph.
use Rattle.std.proofs.Common.{◌≡◌, ◌≢◌, ℕ, zero, suc, ◌+◌, ◌<◌, ◌≤◌, Bool, true, false, List, [], ◌∷◌, length, refl, ap, sym, subst, ◌∙◌, arith}
use Rattle.std.specs.Prelude.{Option, Some, None, slice_get, Contains, map, if◌then◌else◌}
use Rattle.std.specs.Option.{option_and_then}
use Rattle.std.proofs.lemmas.Option.{slice_get_within}
use Rattle.std.proofs.lemmas.List.{length-map}
use Rattle.module_graph.specs.declared.node.Call.{Call}
use Rattle.module_graph.specs.declared.node.Node.{Node}
use Rattle.module_graph.specs.declared.needs.ModuleNeeds.{ModuleNeeds}
use Rattle.module_graph.specs.declared.needs.Need.{Need}
use Rattle.module_graph.specs.Names.{has_name, file_named, meant_file, name_from, parts, without_last}
use Rattle.module_graph.specs.Requires.{call_of, node_of, nodes_of, calls_at}
use Rattle.module_graph.specs.Search.{IsGraph}
use Rattle.module_graph.proofs.Lists.{get-from_contains, slice_get-mapped_from, calls_at-get, get-below}
use Rattle.module_graph.proofs.Finding.{position-found}

-- a name stands for a file that is there
named-within : (files : List ModuleNeeds) (name : Option (List ℕ)) (to : ℕ) → option_and_then (file_named files) name ≡ Some to → to < length files
named-within files None to e = cc
named-within files (Some name) to e = let h = position-found (has_name name) files to e in slice_get_within files to h.0 h.1

-- so does what a file's requires mean
means-within : (files : List ModuleNeeds) (file : ModuleNeeds) (call : Call) (to : ℕ) → Contains (node_of files file).calls call → call.to ≡ Some to → to < length files
means-within files file call to has means = go file.refused refl
  where
    go : (test : Bool) → file.refused ≡ test → to < length files
    go true t =
        let k = get-from_contains (node_of files file).calls call has in
        let none : (node_of files file).calls ≡ [] = ap (λ b. if b then [] else map (call_of files file.path) file.needs) t in
        let absent : slice_get {X = Call} [] k.0 ≡ Some call = ap (λ (l : List Call). slice_get l k.0) (sym none) ∙ k.1 in
        cc
    go false t =
        let k = get-from_contains (node_of files file).calls call has in
        let all : (node_of files file).calls ≡ map (call_of files file.path) file.needs = ap (λ b. if b then [] else map (call_of files file.path) file.needs) t in
        let need = slice_get-mapped_from (call_of files file.path) file.needs k.0 call (ap (λ (l : List Call). slice_get l k.0) (sym all) ∙ k.1) in
        named-within files (name_from (without_last (parts file.path)) need.0.target) to (ap (λ (c : Call). c.to) need.2 ∙ means)

pub IsGraph-nodes : (files : List ModuleNeeds) → IsGraph (nodes_of files)
IsGraph-nodes files file to call has means =
    let within : file < length (nodes_of files) = inside (nodes_of files) file call has in
    let node = get-below (nodes_of files) file within in
    let from = slice_get-mapped_from (node_of files) files file node.0 node.1 in
    let calls : calls_at (nodes_of files) file ≡ (node_of files from.0).calls = calls_at-get (nodes_of files) file node.0 node.1 ∙ ap (λ (n : Node). n.calls) (sym from.2) in
    let lt : to < length files = means-within files from.0 call to (subst (λ (l : List Call). Contains l call) calls has) means in
    let size = length-map files (node_of files) in
    omega arith
  where
    inside : (nodes : List Node) (file : ℕ) (call : Call) → Contains (calls_at nodes file) call → file < length nodes
    inside [] file call has = let k = get-from_contains {X = Call} [] call has in let e = k.1 in cc
    inside (node ∷ nodes) zero call has = omega arith
    inside (node ∷ nodes) (suc file) call has = let rest = inside nodes file call has in omega arith
