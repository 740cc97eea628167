use Rattle.std.proofs.Common.{◌≡◌, ℕ, ◌≤◌, Bool, true, false, List, ◌++◌, length, sym, ap, ◌∙◌, arith}
use Rattle.std.proofs.lemmas.List.{append-nil, append_assoc, length-append}
use Rattle.hpack.specs.declared.status.Status.{Status}
use Rattle.hpack.specs.Responses.{content_octets, length_octets, shrink_octets, status_octets}
use Rattle.hpack.proofs.ReadBack.{no_content, ok_short, reads_back}
use Rattle.hpack.proofs.response.response_block.Goals as goal

shrink_short : (s : Bool) → length (shrink_octets s) ≤ 1
shrink_short true = omega arith
shrink_short false = omega arith

pub put_length-requires : goal.put_length-requires
put_length-requires c =
    let us : List ℕ = shrink_octets c.args.shrink in
    let bs : List ℕ = status_octets c.args.status in
    let so_far : c.put_status.new.block.items ≡ us ++ bs = c.put_status.ensures ∙ ap (λ (xs : List ℕ). xs ++ bs) (c.put_shrink.ensures ∙ ap (λ (xs : List ℕ). xs ++ us) c.new-block.ensures) in
    let one = ap (λ (s : Status). length (status_octets s)) c.in-Ok.is ∙ ok_short in
    omega (arith, one, shrink_short c.args.shrink, ap (λ (xs : List ℕ). length xs) so_far, length-append us bs)

pub returns-in-Ok : goal.returns-in-Ok
returns-in-Ok c =
    let us : List ℕ = shrink_octets c.args.shrink in
    let bs : List ℕ = status_octets c.args.status in
    let so_far : c.put_status.new.block.items ≡ us ++ bs = c.put_status.ensures ∙ ap (λ (xs : List ℕ). xs ++ bs) (c.put_shrink.ensures ∙ ap (λ (xs : List ℕ). xs ++ us) c.new-block.ensures) in
    let cs : List ℕ = length_octets c.args.count in
    let is : cs ≡ content_octets c.args.status c.args.count = ap (λ (s : Status). content_octets s c.args.count) (sym c.in-Ok.is) in
    record {
      value = c.put_length.ensures ∙ ap (λ (xs : List ℕ). xs ++ cs) so_far ∙ append_assoc us bs cs ∙ ap (λ (xs : List ℕ). us ++ (bs ++ xs)) is;
      reads = reads_back;
    }

pub returns-in_default : goal.returns-in_default
returns-in_default c =
    let us : List ℕ = shrink_octets c.args.shrink in
    let bs : List ℕ = status_octets c.args.status in
    let so_far : c.put_status.new.block.items ≡ us ++ bs = c.put_status.ensures ∙ ap (λ (xs : List ℕ). xs ++ bs) (c.put_shrink.ensures ∙ ap (λ (xs : List ℕ). xs ++ us) c.new-block.ensures) in
    let is = no_content c.args.status c.args.count c.in_default.not-Ok in
    record {
      value = so_far ∙ ap (λ (xs : List ℕ). us ++ xs) (sym (append-nil bs) ∙ ap (λ (xs : List ℕ). bs ++ xs) is);
      reads = reads_back;
    }
