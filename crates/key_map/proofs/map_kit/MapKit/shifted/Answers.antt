use Rattle.std.proofs.Common.{◌≤◌, ◌*◌, arith, mul-le-mul_right}
use Rattle.std.proofs.lemmas.Result.{IfOk-weaker}
use Rattle.key_map.proofs.map_kit.MapKit.shifted.Goals as goal

pub returns-clause-kept : goal.returns-clause-kept
returns-clause-kept g c =
    let kept = g.Self.MapKit.kept c.args.self.now in
    let one = c.in_ok-single.ensures.kept in
    let few : kept c.in_ok-single.single * kept c.args.map.now ≤ 1 * kept c.args.map.now = mul-le-mul_right
    (kept c.args.map.now) one in
    IfOk-weaker c.convolve.result (λ map. kept map ≤ kept c.in_ok-single.single * kept c.args.map.now)
    (λ map. kept map ≤ kept c.args.map.now) (λ map most. omega (arith, few, most)) c.convolve.ensures.kept
