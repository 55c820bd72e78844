use Rattle.std.proofs.Common.{[], ◌∷◌, ◌++◌, ◌∙◌, ap, subst, map}
use Rattle.std.specs.Option.{option_map}
use Rattle.crn_token.specs.Plain.{plain_token}
use Rattle.crn_formula.specs.Views.{pieces_of, piece_of}
use Rattle.crn_function_text.specs.Spelled.{form_of}
use Rattle.crn_token.specs.Words.{rest_of}
use Rattle.crn_grammar.specs.Reading.{judged, Gives}
use Rattle.crn_function_text.specs.Grammar.{InPieces, new_piece, with_condition, condition_of, limit}
use Rattle.crn_function_text.specs.Reading.{shown}
use Rattle.crn_function_text.proofs.place.Place.after.Goals as goal

pub returns-in-When : goal.returns-in-When
returns-in-When c =
    rw (c.in-InPieces.is, c.in-When.is)
    (subst (λ rest. Gives shown c.condition.result (judged limit c.args.line.now.number (option_map (λ d. InPieces c.in-InPieces.variables (pieces_of c.in-InPieces.done.items) (with_condition (piece_of c.in-InPieces.last) d)) (condition_of c.in-InPieces.variables (map (plain_token c.args.bytes.now) rest)))))
    (c.rest_of-rest.ensures ∙ ap rest_of c.deref.ensures.value)
    c.condition.ensures)

pub returns-in-Piece : goal.returns-in-Piece
returns-in-Piece c =
    rw (c.in-InPieces.is, c.in-Piece.is)
    (subst (λ rest. Gives shown c.next_piece.result (judged limit c.args.line.now.number (option_map (λ f. InPieces c.in-InPieces.variables (pieces_of c.in-InPieces.done.items ++ piece_of c.in-InPieces.last ∷ []) (new_piece f)) (form_of c.in-InPieces.variables (map (plain_token c.args.bytes.now) rest)))))
    (c.rest_of-rest.ensures ∙ ap rest_of c.deref.ensures.value)
    c.next_piece.ensures)

pub returns-in-Pieces-Piece : goal.returns-in-Pieces-Piece
returns-in-Pieces-Piece c =
    rw (c.in-Sized.is, c.in-Pieces-Piece.is-0, c.in-Pieces-Piece.is-1)
    (subst (λ rest. Gives shown c.first_piece.result (judged limit c.args.line.now.number (option_map (λ f. InPieces c.in-Sized.variables [] (new_piece f)) (form_of c.in-Sized.variables (map (plain_token c.args.bytes.now) rest)))))
    (c.rest_of-rest.ensures ∙ ap rest_of c.deref.ensures.value)
    c.first_piece.ensures)
