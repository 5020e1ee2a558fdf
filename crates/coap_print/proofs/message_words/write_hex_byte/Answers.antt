use Rattle.std.proofs.Common.{arith, subst, ap, Some, ◌≡◌, ◌∷◌, []}
use Rattle.std.specs.Fmt.{DisplaysOnOk, styled_digits_output}
use Rattle.hex.specs.Hex.{encode_lower}
use Rattle.coap_print.proofs.WrittenHex.{hex_one}
use Rattle.coap_print.proofs.message_words.write_hex_byte.Goals as goal

pub returns : goal.returns
returns g c =
    let text : styled_digits_output c.in_radix.result c.laid_out.result ≡ Some (encode_lower (c.args.byte ∷ [])) =
    rw (c.laid_out.ensures, c.in_radix.ensures) (ap Some (hex_one c.args.byte (omega (arith, c.ranges.byte.fits)))) in
    subst (λ t. DisplaysOnOk g.W.Write.write_str_gives c.args.f.now c.write.result t c.write.new.self) text
    c.write.ensures.writes
