-- Faults of a text, in its tokens and in its grammar.
use Rattle.std.specs.Prelude.{ℕ}
use Rattle.luau_lex.specs.Places as lexical
use Rattle.luau_lex.specs.declared.token.LexError.{LexError}
use Rattle.luau_lex.specs.declared.token.LexError.TheVariants as lex
use Rattle.luau_grammar.specs.declared.error.ParseError.{ParseError}
use Rattle.luau_grammar.specs.declared.error.ParseError.TheVariants.{Lex, Unexpected, UnexpectedEnd, AmbiguousCall, Nesting, NoMemory}
use Rattle.source_files.specs.declared.reason.Reason.{Reason}
use Rattle.source_files.specs.declared.reason.Reason.TheVariants as why

-- the offset of a fault
abbrev pub fault_offset : ParseError → ℕ
fault_offset (Lex fault) = lexical.fault_offset fault
fault_offset (Unexpected at) = at
fault_offset (UnexpectedEnd at) = at
fault_offset (AmbiguousCall at) = at
fault_offset (Nesting at) = at
fault_offset NoMemory = 0

-- why a file with the fault of tokens is refused; want of memory is none of a text
abbrev pub lexical_reason_of : LexError → Reason
lexical_reason_of (lex.UnfinishedString at) = why.UnfinishedString
lexical_reason_of (lex.UnfinishedComment at) = why.UnfinishedComment
lexical_reason_of (lex.BadEscape at) = why.BadEscape
lexical_reason_of (lex.BadNumeral at) = why.BadNumeral
lexical_reason_of (lex.StrayByte at) = why.StrayByte
lexical_reason_of (lex.DoubleBrace at) = why.DoubleBrace
lexical_reason_of lex.NoMemory = why.UnexpectedEnd

-- why a file with the fault is refused; want of memory is none of a text
abbrev pub reason_of : ParseError → Reason
reason_of (Lex fault) = lexical_reason_of fault
reason_of (Unexpected at) = why.UnexpectedToken
reason_of (UnexpectedEnd at) = why.UnexpectedEnd
reason_of (AmbiguousCall at) = why.AmbiguousCall
reason_of (Nesting at) = why.Nesting
reason_of NoMemory = why.UnexpectedEnd
