use Rattle.std.proofs.Common.{◌+◌, arith, sym, ◌∙◌, ap}
use Rattle.crn_token.specs.Piece.{symbol_of}
use Rattle.crn_token.proofs.Fronts.{IsOther, symbol_fits, longest_symbol, token_symbol}
use Rattle.crn_token.proofs.symbol_front.Goals as goal

pub overflow_add-span : goal.overflow_add-span
overflow_add-span c = omega (arith, (symbol_fits c.args.rest.now c.requires.some).0, c.symbol_at-len.ensures.len)

pub returns-in-Some-clause-len : goal.returns-in-Some-clause-len
returns-in-Some-clause-len c = c.symbol_at-len.ensures.len ∙ sym (longest_symbol c.args.rest.now c.requires.some (record { letter = c.requires.letter; digit = c.requires.digit; blank = c.requires.blank }))

pub returns-in-None-clause-len : goal.returns-in-None-clause-len
returns-in-None-clause-len c = c.symbol_at-len.ensures.len ∙ sym (longest_symbol c.args.rest.now c.requires.some (record { letter = c.requires.letter; digit = c.requires.digit; blank = c.requires.blank }))

pub returns-in-Some-clause-token : goal.returns-in-Some-clause-token
returns-in-Some-clause-token c =
    let fits = symbol_fits c.args.rest.now c.requires.some in
    let len = c.symbol_at-len.result.0 in
    let other : IsOther c.args.rest.now = record { letter = c.requires.letter; digit = c.requires.digit; blank = c.requires.blank } in
    sym (token_symbol c.args.line c.args.at len c.args.rest.now (omega (arith, fits.0, c.symbol_at-len.ensures.len)) (omega (arith, fits.1, c.symbol_at-len.ensures.len)) other
    ∙ ap (symbol_of (record { line = c.args.line; start = c.args.at; end = c.args.at + len })) (sym c.symbol_at-len.ensures.sign ∙ c.in-Some.is))

pub returns-in-None-clause-token : goal.returns-in-None-clause-token
returns-in-None-clause-token c =
    let fits = symbol_fits c.args.rest.now c.requires.some in
    let len = c.symbol_at-len.result.0 in
    let other : IsOther c.args.rest.now = record { letter = c.requires.letter; digit = c.requires.digit; blank = c.requires.blank } in
    sym (token_symbol c.args.line c.args.at len c.args.rest.now (omega (arith, fits.0, c.symbol_at-len.ensures.len)) (omega (arith, fits.1, c.symbol_at-len.ensures.len)) other
    ∙ ap (symbol_of (record { line = c.args.line; start = c.args.at; end = c.args.at + len })) (sym c.symbol_at-len.ensures.sign ∙ c.in-None.is))
