-- What the three numbers of a text's first line are where their reader stops: `no_first`, `one_field`, `no_second`, `two_fields`, `no_third` and
-- `all_three`; and what `three_numbers` says of a text: `three_are`, `three_are_not`.
use Prim.Native.Nat.{ℕ, ◌+◌, ◌≤◌, ◌<◌}
use native.Mathlib.Omega.{arith}
use mathlib.Core.Path.{◌≡◌, sym, ap, ◌∙◌}
use mathlib.Core.Bool.{true, false, ◌&&◌, and-false}
use mathlib.Core.List.{List}
use lib.ListN.{length}
use Rattle.laws.proofs.CaseSplits.{by_cond, clash}
use Rattle.laws.proofs.Parts.{past}
use Rattle.text.specs.Lines.{line_end, space, has, before, after, field}
use Rattle.text.specs.Number.{is_number, number_up_to}
use Rattle.text.specs.Fields.{are_numbers, three_of, three_numbers}
use Rattle.std.specs.Prelude.{Some, None}
use Rattle.text.specs.declared.number.LeadingNumber.{LeadingNumber}
use Rattle.text.specs.declared.fields.ThreeNumbers.{ThreeNumbers}
use Rattle.text.proofs.Split.{gone, hasnt_of, cut}
use Rattle.text.proofs.NumberLaws.{up_to, not_up_to}
use Rattle.text.proofs.NumbersOn.{numbers_on, unspaced, are_numbers_lem, on_line, first_on}

module _ (k largest : ℕ) (s : List ℕ) where
  -- the three tests as the code makes them
  tests :
      are_numbers k largest 3 (before line_end s)
      ≡ (has space s && is_number k largest (before space s)
      && (has space (after space s) && is_number k largest (before space (after space s))
      && is_number k largest (before line_end (after space (after space s)))))
  unfolding numbers_on
  tests = are_numbers_lem k largest 2 (before line_end s) ∙ on_line k largest 1 s ∙ rw (on_line k largest 0 (after space s))

  broken : are_numbers k largest 3 (before line_end s) ≡ false → None ≡ three_numbers k largest s
  unfolding three_numbers
  broken e = rw e

  pub no_first : number_up_to k largest space s ≡ None → None ≡ three_numbers k largest s
  no_first e = broken (tests ∙ rw (not_up_to k largest space s e, and-false (has space s)))

  -- the first number has a bytes
  module _ (a : LeadingNumber) (e : number_up_to k largest space s ≡ Some a) where
    pub one_field : length s ≤ a.length → None ≡ three_numbers k largest s
    one_field h =
        let l = (up_to k largest space s a e).1 in
        broken (tests ∙ rw (hasnt_of space s (omega (arith, l))))

    -- a space follows it, and then the rest r of the text
    module _ (h : a.length < length s) where
      rest : past s a.length ≡ after space s
      rest = (cut space s a.length (up_to k largest space s a e).1 h).rest

      is : has space s ≡ true
      is = (cut space s a.length (up_to k largest space s a e).1 h).is

      more :
          are_numbers k largest 3 (before line_end s)
          ≡ (has space (past s a.length) && is_number k largest (before space (past s a.length)) && is_number k largest (before line_end (after space (past s a.length))))
      more = tests ∙ rw (is, (up_to k largest space s a e).0.is, rest)

      pub no_second : number_up_to k largest space (past s a.length) ≡ None → None ≡ three_numbers k largest s
      no_second b = broken (more ∙ rw (not_up_to k largest space (past s a.length) b, and-false (has space (past s a.length))))

      -- the second number has b bytes
      module _ (b : LeadingNumber) (f : number_up_to k largest space (past s a.length) ≡ Some b) where
        pub two_fields : length (past s a.length) ≤ b.length → None ≡ three_numbers k largest s
        two_fields h₁ =
            let l = (up_to k largest space (past s a.length) b f).1 in
            broken (more ∙ rw (hasnt_of space (past s a.length) (omega (arith, l))))

        -- a space follows it, and then the last part of the text
        module _ (h₁ : b.length < length (past s a.length)) where
          rest₁ : past (past s a.length) b.length ≡ after space (past s a.length)
          rest₁ = (cut space (past s a.length) b.length (up_to k largest space (past s a.length) b f).1 h₁).rest

          is₁ : has space (past s a.length) ≡ true
          is₁ = (cut space (past s a.length) b.length (up_to k largest space (past s a.length) b f).1 h₁).is

          last : are_numbers k largest 3 (before line_end s) ≡ is_number k largest (before line_end (past (past s a.length) b.length))
          last = more ∙ rw (is₁, (up_to k largest space (past s a.length) b f).0.is, rest₁)

          pub no_third : number_up_to k largest line_end (past (past s a.length) b.length) ≡ None → None ≡ three_numbers k largest s
          no_third c = broken (last ∙ not_up_to k largest line_end (past (past s a.length) b.length) c)

          -- the third number has d bytes
          module _ (d : LeadingNumber) (g : number_up_to k largest line_end (past (past s a.length) b.length) ≡ Some d) where
            pub all_three : Some (record { first = a.number; second = b.number; third = d.number; length = a.length + 1 + b.length + 1 + d.length }) ≡ three_numbers k largest s
            unfolding three_numbers three_of field
            all_three =
                let (w₁, l₁) = up_to k largest space s a e in
                let (w₂, l₂) = up_to k largest space (past s a.length) b f in
                let (w₃, l₃) = up_to k largest line_end (past (past s a.length) b.length) d g in
                let o = first_on k largest 1 s (sym (are_numbers_lem k largest 2 (before line_end s)) ∙ last ∙ w₃.is) in
                let q = first_on k largest 0 (past s a.length) (rw (← rest) at o.next) in
                let u : before line_end (past (past s a.length) b.length) ≡ after space (after space (before line_end s)) =
                rw (o.rest, ← rest, q.rest, rest₁)
                in
                let v : before space (after space (before line_end s)) ≡ before space (past s a.length) = rw (o.rest, ← rest) q.first in
                let none = gone space (before line_end (past (past s a.length) b.length)) (unspaced k largest (before line_end (past (past s a.length) b.length)) w₃.is) in
                let c : length (before line_end s) ≡ a.length + 1 + b.length + 1 + d.length =
                omega (arith, o.count, q.count, ap (λ (t : List ℕ). length (before line_end t)) rest, ap (λ (t : List ℕ). length (before line_end t)) rest₁, l₁, l₂, l₃)
                in
                rw (last, w₃.is, o.first, w₁.value, v, w₂.value, ← u, none, w₃.value, c)

-- a text whose first line is three numbers, and one whose is not
module _ (k largest : ℕ) (s : List ℕ) where
  pub record AreThree (t : ThreeNumbers) : Type 0 where
    pub are : are_numbers k largest 3 (before line_end s) ≡ true
    pub is : t ≡ three_of (before line_end s)

  pub three_are : (t : ThreeNumbers) → three_numbers k largest s ≡ Some t → AreThree t
  unfolding three_numbers
  three_are t =
      by_cond (λ r. r ≡ Some t → AreThree t) (are_numbers k largest 3 (before line_end s))
      (λ are e. record { are = are; is = cc })
      (λ are e. clash cc)

  pub three_are_not : three_numbers k largest s ≡ None → are_numbers k largest 3 (before line_end s) ≡ false
  unfolding three_numbers
  three_are_not =
      by_cond (λ r. r ≡ None → are_numbers k largest 3 (before line_end s) ≡ false) (are_numbers k largest 3 (before line_end s))
      (λ t e. clash cc)
      (λ t e. t)
