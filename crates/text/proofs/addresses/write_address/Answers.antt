-- `text::addresses::write_address` meets its contract: the text stands in front of a list that has room for it, and is given out.
use Prim.Native.Nat.{ℕ, ◌≤◌}
use mathlib.Core.Path.{◌≡◌, ap, sym, ◌∙◌}
use mathlib.Core.List.{List}
use lib.ListN.{length, get_or}
use lib.Seq.{length-take-le}
use mir.Syntax.{w8}
use mir.Val.{Fits}
use native.Mathlib.Omega.{arith}
use Rattle.text.specs.AddressText.{write_address}
use Rattle.text.specs.Answers.{text_answer, text_out}
use Rattle.text.proofs.TextLaws.{address_length}
use Rattle.text.proofs.WrittenLaws.{put_front}
use borrow.Author.Rules.{rules}
use Rattle.text.proofs.addresses.write_address.Goals as goal

few : (a : List ℕ) → length a ≡ 16 → ((i : ℕ) → Fits w8 (get_or a i 0)) → length (write_address a) ≤ 39
few a l f = address_length a l (λ i. (f i).fits)

pub put_address-n-requires : goal.put_address-n-requires
put_address-n-requires c = omega (arith, few c.args.address (search rules) (λ i. search rules))

pub slice_bounds-text-end : goal.slice_bounds-text-end
slice_bounds-text-end c = omega (arith, few c.args.address (search rules) (λ i. search rules), c.put_address-n.ensures.0, c.put_address-n.auto.out)

pub slice_bounds-give-end : goal.slice_bounds-give-end
slice_bounds-give-end c = sym (length-take-le _ _ (omega (arith, few c.args.address (search rules) (λ i. search rules), c.put_address-n.ensures.0, c.put_address-n.auto.out)))

pub returns : goal.returns
returns c =
    let room = length c.args.out.now in
    let g = c.give in
    let f = put_front _ _ _ (write_address c.args.address) c.put_address-n.ensures in
    record {
      value = g.ensures.value ∙ ap (λ (t : List ℕ). text_answer t room) f;
      out_after = g.ensures.out_after ∙ ap (λ (t : List ℕ). text_out t room) f;
    }
