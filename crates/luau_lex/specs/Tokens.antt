-- What a contract above names of tokens: a token as plain data, and the tokens of a text as a
-- function.
pub use Rattle.luau_lex.specs.Token.{Tok, seen_token}
pub use Rattle.luau_lex.specs.Computed.Tokens.{tokens_of}
