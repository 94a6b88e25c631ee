-- The code's tokens as those of the definitions.
use Rattle.lq_predicate_formula.specs.declared.token.Token.{Token}
use Rattle.lq_predicate_formula.specs.declared.token.Token.TheVariants as tokens
use Rattle.lq_predicate_formula.specs.declared.token.Placed.{Placed}
use Rattle.lq_predicate_formula.specs.declared.leading_token.Piece.{Piece}
use Rattle.lq_predicate_formula.specs.Lexing.{LexedToken}
use Rattle.lq_predicate_formula.specs.Tokens as lexed

abbrev pub token_of : Token → lexed.Token
token_of tokens.Opens = lexed.opens
token_of tokens.Closes = lexed.closes
token_of tokens.Bang = lexed.bang
token_of tokens.Ands = lexed.ands
token_of tokens.Ors = lexed.ors
token_of (tokens.Is o) = lexed.op o
token_of (tokens.Word raw) = lexed.word raw.now
token_of tokens.Lone = lexed.lone
token_of tokens.Cut = lexed.cut

abbrev pub placed_of : Placed → lexed.Placed
placed_of p = record { offset = p.offset; raw_offset = p.raw_offset; token = token_of p.token }

abbrev pub front_of : Piece → LexedToken
front_of p = record { token = token_of p.token; size = p.size; inside = p.inside }
