use Rattle.std.proofs.Common.{◌≡◌, ◌+◌, ◌-◌, ◌<◌, ◌++◌, ◌∷◌, [], suc, true, false, length, drop, map, Some, sym, ap, ◌∙◌, arith, length-drop, drop-drop}
use Rattle.std.proofs.lemmas.List.{drop-map, map-append}
use Rattle.crn_token.specs.Plain.{plain_token}
use Rattle.crn_net.specs.Views.{part_of, parts_of}
use Rattle.crn_net_text.specs.Grammar.{side_at, is_plus}
use Rattle.crn_net_text.proofs.Readers.{onto, side_ends, side_stuck, side_goes}
use Rattle.crn_net_text.proofs.side.side_at.Goals as goal

pub returns-then-not-is_plus : goal.returns-then-not-is_plus
returns-then-not-is_plus c =
    let pt = plain_token c.args.bytes.now in
    let ts = c.args.tokens.now in
    let rest = c.after-rest.result.now in
    let n = c.args.species in
    let ps = parts_of c.loop.parts.items in
    let p = part_of c.in-Some.part in
    let fuel : length ts - c.loop.counter ≡ suc (length ts - (c.loop.counter + 1)) = omega (arith, c.loop-test.true) in
    let rest_is : map pt rest ≡ drop c.loop.taken (map pt ts) = ap (map pt) c.after-rest.ensures ∙ sym (drop-map pt c.loop.taken ts) in
    let longer : parts_of c.push.new.self.items ≡ ps ++ p ∷ [] = ap parts_of c.in_ok-push-in-Some.ensures.items ∙ map-append part_of c.loop.parts.items (c.in-Some.part ∷ []) in
    let plus : is_plus (drop c.in-Some.size (map pt rest)) ≡ false =
    ap is_plus (drop-map pt c.in-Some.size rest ∙ ap (map pt) (sym c.after.ensures)) ∙ sym (c.is_plus.ensures.value c.args.bytes.now) ∙ c.if-not-is_plus.true in
    ap (λ l. Some (l, c.loop.taken + c.in-Some.size)) longer
    ∙ side_ends (length ts - c.loop.counter) (length ts - (c.loop.counter + 1)) c.loop.low n c.loop.taken c.in-Some.size (map pt rest) ps p fuel c.in-Some.ensures.value plus
    ∙ ap (λ us. onto ps c.loop.taken (side_at (length ts - c.loop.counter) c.loop.low n us)) rest_is
    ∙ c.loop.invariant.told

pub returns-in-None : goal.returns-in-None
returns-in-None c =
    let pt = plain_token c.args.bytes.now in
    let ts = c.args.tokens.now in
    let rest = c.after-rest.result.now in
    let n = c.args.species in
    let ps = parts_of c.loop.parts.items in
    let fuel : length ts - c.loop.counter ≡ suc (length ts - (c.loop.counter + 1)) = omega (arith, c.loop-test.true) in
    let rest_is : map pt rest ≡ drop c.loop.taken (map pt ts) = ap (map pt) c.after-rest.ensures ∙ sym (drop-map pt c.loop.taken ts) in
    side_stuck (length ts - c.loop.counter) (length ts - (c.loop.counter + 1)) c.loop.low n c.loop.taken (map pt rest) ps fuel c.in-None.ensures.value
    ∙ ap (λ us. onto ps c.loop.taken (side_at (length ts - c.loop.counter) c.loop.low n us)) rest_is
    ∙ c.loop.invariant.told

pub loop-preserved : goal.loop-preserved
loop-preserved c =
    let pt = plain_token c.args.bytes.now in
    let ts = c.args.tokens.now in
    let rest = c.after-rest.result.now in
    let n = c.args.species in
    let ps = parts_of c.loop.parts.items in
    let p = part_of c.in-Some.part in
    let size = c.in-Some.size in
    let some : 0 < length c.after.result.now = c.is_plus.ensures.some c.if-not-is_plus.false in
    let fuel : length ts - c.loop.counter ≡ suc (length ts - (c.loop.counter + 1)) = omega (arith, c.loop-test.true) in
    let rest_is : map pt rest ≡ drop c.loop.taken (map pt ts) = ap (map pt) c.after-rest.ensures ∙ sym (drop-map pt c.loop.taken ts) in
    let longer : parts_of c.push.new.self.items ≡ ps ++ p ∷ [] = ap parts_of c.in_ok-push-in-Some.ensures.items ∙ map-append part_of c.loop.parts.items (c.in-Some.part ∷ []) in
    let plus : is_plus (drop size (map pt rest)) ≡ true =
    ap is_plus (drop-map pt size rest ∙ ap (map pt) (sym c.after.ensures)) ∙ sym (c.is_plus.ensures.value c.args.bytes.now) ∙ c.if-not-is_plus.false in
    let later : drop (c.loop.taken + (size + 1)) (map pt ts) ≡ drop (size + 1) (map pt rest) = sym (drop-drop (size + 1) c.loop.taken (map pt ts)) ∙ ap (drop (size + 1)) (sym rest_is) in
    record {
      fits = omega (arith, some, ap length c.after.ensures, length-drop size rest, ap length c.after-rest.ensures, length-drop c.loop.taken ts);
      told = ap (λ l. onto l (c.loop.taken + (size + 1)) (side_at (length ts - (c.loop.counter + 1)) p.species n (drop (c.loop.taken + (size + 1)) (map pt ts)))) longer
          ∙ side_goes (length ts - c.loop.counter) (length ts - (c.loop.counter + 1)) c.loop.low n c.loop.taken size (map pt rest) (drop (c.loop.taken + (size + 1)) (map pt ts)) ps p fuel c.in-Some.ensures.value plus later
          ∙ ap (λ us. onto ps c.loop.taken (side_at (length ts - c.loop.counter) c.loop.low n us)) rest_is
          ∙ c.loop.invariant.told;
    }
