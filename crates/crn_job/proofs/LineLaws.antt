-- The first word of a line and what follows it, as they are read of its tokens.
use Rattle.std.proofs.Common.{◌≡◌, ℕ, cond, List, [], map, sym, ◌∙◌, ap}
use Rattle.crn_token.specs.declared.Token.{Token}
use Rattle.crn_token.specs.declared.Line.{Line}
use Rattle.crn_token.specs.Plain.{plain_token, plain_line}
use Rattle.crn_token.specs.Words.{rest_of, says}
use Rattle.crn_token.proofs.LineLaws.{rest_map, said_is}
use Rattle.crn_job.specs.declared.words.Word.{Word}
use Rattle.crn_job.specs.Words.{first_word}

pub word_is : (bytes : List ℕ) (line : Line) (tokens : List Token) (w : Word) → tokens ≡ cond line.bad [] line.tokens.items → w ≡ first_word (map (plain_token bytes) tokens) → w ≡ first_word (says (plain_line bytes line))
word_is bytes line tokens w tokens_are is = is ∙ ap first_word (ap (map (plain_token bytes)) tokens_are ∙ said_is bytes line)

pub rest_is : (bytes : List ℕ) (line : Line) (tokens rest : List Token) → tokens ≡ cond line.bad [] line.tokens.items → rest ≡ rest_of tokens → map (plain_token bytes) rest ≡ rest_of (says (plain_line bytes line))
rest_is bytes line tokens rest tokens_are is =
    ap (map (plain_token bytes)) is ∙ sym (rest_map (plain_token bytes) tokens) ∙ ap rest_of (ap (map (plain_token bytes)) tokens_are ∙ said_is bytes line)
