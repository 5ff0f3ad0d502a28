-- A text has at most one token more than it has bytes.
use Rattle.std.proofs.Common.{ℕ, suc, ◌≤◌, List, [], ◌∷◌, length, Bool, true, false, arith}
use Rattle.json.specs.Token.{Token}
use Rattle.json.specs.Lex.{Lexeme, token, comma, colon, Class, class, quote, backslash, operator}
use Rattle.json.specs.Lex.{space, other, Mode, between, in_word, in_string, in_escape, lex_byte, lex}
use Rattle.json.specs.Lex.{Place, fresh, after_value, after_comma, after_key, begins_colon}
use Rattle.json.specs.Lex.{may_begin, may_close, if_allowed, place_token, punctuate, tokens}

-- a byte begins at most one lexeme
length-lex_byte : (m : Mode) (c : Class) (x : ℕ) (xs : List ℕ) (k : Mode → List Lexeme) (n : ℕ)
    → ((next : Mode) → length (k next) ≤ n) → length (lex_byte m c x xs k) ≤ suc n
length-lex_byte between quote x xs k n rest = omega (arith, rest in_string)
length-lex_byte between backslash x xs k n rest = omega (arith, rest in_word)
length-lex_byte between operator x xs k n rest = omega (arith, rest between)
length-lex_byte between space x xs k n rest = omega (arith, rest between)
length-lex_byte between other x xs k n rest = omega (arith, rest in_word)
length-lex_byte in_word quote x xs k n rest = omega (arith, rest in_word)
length-lex_byte in_word backslash x xs k n rest = omega (arith, rest in_word)
length-lex_byte in_word operator x xs k n rest = omega (arith, rest between)
length-lex_byte in_word space x xs k n rest = omega (arith, rest between)
length-lex_byte in_word other x xs k n rest = omega (arith, rest in_word)
length-lex_byte in_string quote x xs k n rest = omega (arith, rest between)
length-lex_byte in_string backslash x xs k n rest = omega (arith, rest in_escape)
length-lex_byte in_string operator x xs k n rest = omega (arith, rest in_string)
length-lex_byte in_string space x xs k n rest = omega (arith, rest in_string)
length-lex_byte in_string other x xs k n rest = omega (arith, rest in_string)
length-lex_byte in_escape c x xs k n rest = omega (arith, rest in_string)

length-lex : (m : Mode) (text : List ℕ) → length (lex m text) ≤ length text
unfolding lex
length-lex m [] = omega arith
length-lex m (x ∷ xs) =
    length-lex_byte m (class x) x xs (λ next. lex next xs) (length xs) (λ next. length-lex next xs)

-- a token, where it may stand, and what follows it; else an end
length-if_allowed : (allowed : Bool) (t : Token) (k : Place → List Token) (next : Place) (n : ℕ)
    → length (k next) ≤ suc n → length (if_allowed allowed t k next) ≤ suc (suc n)
length-if_allowed true t k next n rest = omega arith
length-if_allowed false t k next n rest = omega arith

length-place_token : (p : Place) (t : Token) (before_colon : Bool) (k : Place → List Token) (n : ℕ)
    → ((next : Place) → length (k next) ≤ suc n)
    → length (place_token p t before_colon k) ≤ suc (suc n)
length-place_token p Token.begin_object b k n rest =
    length-if_allowed (may_begin p) Token.begin_object k fresh n (rest fresh)
length-place_token p Token.end_object b k n rest =
    length-if_allowed (may_close p) Token.end_object k after_value n (rest after_value)
length-place_token p Token.begin_array b k n rest =
    length-if_allowed (may_begin p) Token.begin_array k fresh n (rest fresh)
length-place_token p Token.end_array b k n rest =
    length-if_allowed (may_close p) Token.end_array k after_value n (rest after_value)
length-place_token p (Token.key s) b k n rest = omega arith
length-place_token p (Token.string s) true k n rest =
    length-if_allowed (may_begin p) (Token.key s) k after_key n (rest after_key)
length-place_token p (Token.string s) false k n rest =
    length-if_allowed (may_begin p) (Token.string s) k after_value n (rest after_value)
length-place_token p (Token.number s) b k n rest =
    length-if_allowed (may_begin p) (Token.number s) k after_value n (rest after_value)
length-place_token p (Token.boolean t) b k n rest =
    length-if_allowed (may_begin p) (Token.boolean t) k after_value n (rest after_value)
length-place_token p Token.null b k n rest =
    length-if_allowed (may_begin p) Token.null k after_value n (rest after_value)
length-place_token p Token.bad b k n rest = omega arith

length-punctuate : (p : Place) (ls : List Lexeme) → length (punctuate p ls) ≤ suc (length ls)
unfolding punctuate
length-punctuate fresh [] = omega arith
length-punctuate after_value [] = omega arith
length-punctuate after_comma [] = omega arith
length-punctuate after_key [] = omega arith
length-punctuate fresh (token t ∷ ls) =
    length-place_token fresh t (begins_colon ls) (λ next. punctuate next ls) (length ls) (λ next. length-punctuate next ls)
length-punctuate after_value (token t ∷ ls) =
    length-place_token after_value t (begins_colon ls) (λ next. punctuate next ls) (length ls) (λ next. length-punctuate next ls)
length-punctuate after_comma (token t ∷ ls) =
    length-place_token after_comma t (begins_colon ls) (λ next. punctuate next ls) (length ls) (λ next. length-punctuate next ls)
length-punctuate after_key (token t ∷ ls) =
    length-place_token after_key t (begins_colon ls) (λ next. punctuate next ls) (length ls) (λ next. length-punctuate next ls)
length-punctuate fresh (comma ∷ ls) = omega arith
length-punctuate after_value (comma ∷ ls) = omega (arith, length-punctuate after_comma ls)
length-punctuate after_comma (comma ∷ ls) = omega arith
length-punctuate after_key (comma ∷ ls) = omega arith
length-punctuate fresh (colon ∷ ls) = omega arith
length-punctuate after_value (colon ∷ ls) = omega arith
length-punctuate after_comma (colon ∷ ls) = omega arith
length-punctuate after_key (colon ∷ ls) = omega (arith, length-punctuate fresh ls)

pub length-tokens : (text : List ℕ) → length (tokens text) ≤ suc (length text)
length-tokens text =
    omega (arith, length-punctuate fresh (lex between text), length-lex between text)
