-- Where a reader of tokens is.
use Rattle.std.specs.Prelude.{◌≡◌, ℕ, ◌+◌, min, get_or}
use Rattle.replay.specs.declared.tokens.Token.{Token}
use Rattle.replay.specs.declared.tokens.Tokens.{Tokens}
use Rattle.replay.specs.declared.lines.Line.{Line}

-- the number of the next token, 0 past the last one
abbrev pub next_of : Tokens → ℕ
next_of t = get_or t.all.now t.at 0

-- what the next token stands for, by what a conversion gives
abbrev pub Stands : {T : Type 0} → (Token → T → Type 0) → Tokens → T → Type 0
Stands gives t x = (token : Token) × (token.0 ≡ next_of t) × gives token x

-- past n tokens more; a place has 64 bits
abbrev pub moved : ℕ → Tokens → Tokens
moved n t = record t { at = min 18446744073709551615 (t.at + n) }

-- a reader of a line's tokens, at a place
abbrev pub IsAt : ℕ → Line → Tokens → Type 0
IsAt at line tokens = tokens ≡ record { all = line.tokens; at = at }
