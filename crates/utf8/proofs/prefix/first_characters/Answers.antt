use mathlib.Core.Path.{ap}
use native.Mathlib.Omega.{arith}
use lib.ListN.{length}
use Rattle.utf8.specs.Utf8.{text}
use Rattle.utf8.proofs.Ranges.{char_le}
use Rattle.utf8.proofs.Decoded.{left_stop, left_end, left_characters, left_octets}
use Rattle.utf8.proofs.prefix.first_characters.Goals as goal

pub returns-then-k-eq0 : goal.returns-then-k-eq0
returns-then-k-eq0 c =
    let l = c.loop-characters in
    let none = left_stop c.args.s.now l.octets c.char_len-k.ensures c.args.most l.characters c.if-k-eq0.true in
    record {
      characters = omega (arith, ap length none, l.invariant.2);
      octets = omega (arith, ap (λ r. length (text r)) none, l.invariant.3);
    }

pub overflow_add-octets : goal.overflow_add-octets
overflow_add-octets c = omega (arith, char_le c.args.s.now c.loop-characters.octets c.char_len-k.ensures (omega arith))

pub loop-characters-preserved : goal.loop-characters-preserved
loop-characters-preserved c =
    let l = c.loop-characters in
    let s = c.args.s.now in
    let most = c.args.most in
    let is = c.char_len-k.ensures in (
      omega (arith, char_le s l.octets is (omega arith)),
      omega arith,
      omega (arith, l.invariant.2, left_characters s l.octets is most l.characters (omega arith) (omega arith)),
      omega (arith, l.invariant.3, left_octets s l.octets is most l.characters (omega arith) (omega arith)),
    )

pub returns : goal.returns
returns c =
    let l = c.loop-characters in
    let a = c.args in
    let none = left_end a.s.now l.octets a.most l.characters (omega arith) in
    record {
      characters = omega (arith, ap length none, l.invariant.2);
      octets = omega (arith, ap (λ r. length (text r)) none, l.invariant.3);
    }
