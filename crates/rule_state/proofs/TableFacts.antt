-- What came from elsewhere, after calls.
use Rattle.std.proofs.Common.{List}
use Rattle.std.specs.BTreeMap.{BTreeMap}
use Rattle.std.specs.Prelude.{All, ℕ}
use Rattle.std.proofs.lemmas.List.Elements.{All-weaker}
use Rattle.type_arena.specs.declared.node.TypeRef.{TypeRef}
use Rattle.type_decl.specs.Tables.{refs_in}
use Rattle.type_decl.specs.declared.sig.Sig.{Sig}
use Rattle.type_decl.specs.declared.table.SigTable.{SigTable}
use Rattle.local_types.specs.Growing.{Grows}
use Rattle.local_types.specs.declared.types.LocalTypes.{LocalTypes}
use Rattle.rule_state.proofs.SoundFacts.{stands_on}
use Rattle.rule_state.specs.Sound.{Stands, KnowsTable, Knows}
use Rattle.rule_state.specs.declared.state.RuleState.{RuleState}

knows_table_on : (s t : LocalTypes) (outside given : List TypeRef) (table : SigTable) → Grows s t given → KnowsTable s outside table → KnowsTable t outside table
knows_table_on s t outside given table grows known = record {
  keeps = λ at node e. grows.keeps at node (known.keeps at node e);
  stand = All-weaker (λ (sig : Sig). All (Stands s outside) (refs_in sig)) (λ sig. All (Stands t outside) (refs_in sig)) (λ sig. All-weaker (Stands s outside) (Stands t outside) (λ at. stands_on s t outside given at grows) (refs_in sig)) table.sigs known.stand;
}

pub knows_on : (s t : LocalTypes) (outside given : List TypeRef) (table : SigTable) (imports : BTreeMap ℕ TypeRef) → Grows s t given → Knows s outside table imports → Knows t outside table imports
knows_on s t outside given table imports grows known = record {
  declared = knows_table_on s t outside given table grows known.declared;
  imported = λ id at found. stands_on s t outside given at grows (known.imported id at found);
}

-- the same of a state, after one call on its types and after two
pub known_then : (state : RuleState) (t : LocalTypes) (given : List TypeRef) → Grows state.types t given → Knows t state.outside.items state.table.now state.imports
known_then state t given grows = knows_on state.types t state.outside.items given state.table.now state.imports grows state.known

pub known_twice : (state : RuleState) (t u : LocalTypes) (given more : List TypeRef) → Grows state.types t given → Grows t u more → Knows u state.outside.items state.table.now state.imports
known_twice state t u given more grows grows_more = knows_on t u state.outside.items more state.table.now state.imports grows_more (known_then state t given grows)
