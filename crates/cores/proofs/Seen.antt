-- A record of cores from its end, as the code goes: `Seen`, with `seen_none`, `seen_0` and `seen_more`; and `too_large` and `seen_twice`, that it is not sound.
use Prim.Native.Nat.{ℕ, suc, ◌-◌, ◌≤◌, ◌<◌}
use mathlib.Core.Path.{◌≡◌, refl, sym, ap, ◌∙◌}
use mathlib.Core.List.{List, ◌∷◌}
use mathlib.Core.Bool.{Bool, true, false}
use native.Mathlib.Omega.{arith}
use native.Mathlib.Nat.{le_refl}
use lib.ListN.{length, get_or, set, drop, replicate, length-set, length-replicate}
use lib.Seq.{drop-length, drop-cons, get_or-set_same, get_or-set_other}
use borrow.Author.Tests.{le-leb, eq-eqb, ne_eqb}
use Rattle.laws.proofs.CaseSplits.{by_test, by_equal, not_both}
use Rattle.laws.proofs.Replaced.{replicate_entry}
use Rattle.tasks.specs.Limits.{max_cores}
use Rattle.cores.specs.Assign.{is_among}
use Rattle.cores.specs.Record.{cores_sound}
use Rattle.cores.proofs.RecordLaws.{First, first_sound, sound_drop}

-- the cores from n on are sound, and each that is recorded there has its flag
pub record Seen (recorded : List ℕ) (seen : List Bool) (n : ℕ) : Type 0 where
  pub within : n ≤ length recorded
  pub all_flags : length seen ≡ suc max_cores
  pub rest_sound : cores_sound (drop n recorded) ≡ true
  pub flag : (core : ℕ) → 1 ≤ core → core ≤ max_cores → get_or seen core false ≡ is_among (drop n recorded) core

pub seen_none : (recorded : List ℕ) → Seen recorded (replicate (suc max_cores) false) (length recorded)
unfolding cores_sound is_among
seen_none recorded =
    record {
      within = le_refl (length recorded);
      all_flags = length-replicate (suc max_cores) false;
      rest_sound = rw (drop-length recorded);
      flag = λ core some small. rw (drop-length recorded) (replicate_entry (suc max_cores) core false);
    }

module _ (recorded : List ℕ) (seen : List Bool) (n : ℕ) (now : Seen recorded seen n) (more : 0 < n) where
  abbrev next : ℕ
  next = get_or recorded (n - 1) 0

  one_more : drop (n - 1) recorded ≡ next ∷ drop n recorded
  one_more =
      let e : suc (n - 1) ≡ n = omega arith in
      drop-cons recorded (n - 1) 0 (omega (arith, now.within)) ∙ ap (λ (j : ℕ). next ∷ drop j recorded) e

  -- of a sound record the next core is as it must be
  refuted : (First next (drop n recorded) → ⊥) → cores_sound recorded ≡ false
  refuted not_first =
      by_test (cores_sound recorded)
      (λ ok. absurd (not_first (first_sound next (drop n recorded) (rw one_more at (sound_drop recorded (n - 1) ok)))))
      (λ f. f)

  pub too_large : max_cores < next → cores_sound recorded ≡ false
  too_large large = refuted (λ first. omega (arith, first.small))

  module _ (small : next ≤ max_cores) where
    pub seen_0 : next ≡ 0 → Seen recorded seen (n - 1)
    unfolding cores_sound is_among
    seen_0 z =
        record {
          within = omega (arith, now.within);
          all_flags = now.all_flags;
          rest_sound = rw (one_more, le-leb next max_cores small, eq-eqb next 0 z, now.rest_sound);
          flag = λ core some few. rw (one_more, ne_eqb next core (λ e. omega arith)) (now.flag core some few);
        }

    module _ (some : 1 ≤ next) where
      pub seen_twice : get_or seen next false ≡ true → cores_sound recorded ≡ false
      seen_twice twice =
          refuted (λ first. not_both (is_among (drop n recorded) next) (sym (now.flag next some small) ∙ twice) (first.alone some))

      pub seen_more : get_or seen next false ≡ false → Seen recorded (set seen next true) (n - 1)
      unfolding cores_sound is_among
      seen_more new =
          let alone : is_among (drop n recorded) next ≡ false = sym (now.flag next some small) ∙ new in
          record {
            within = omega (arith, now.within);
            all_flags = length-set seen next true ∙ now.all_flags;
            rest_sound = rw (one_more, le-leb next max_cores small, alone, ne_eqb next 0 (λ z. omega arith), now.rest_sound);
            flag = λ core from few.
                by_equal core next
                (λ e. rw (one_more, e, eq-eqb next next refl) (get_or-set_same seen next true false (omega (arith, now.all_flags))))
                (λ ne.
                rw (one_more, ne_eqb next core (λ e. ne (sym e)))
                (get_or-set_other seen next core true false ne ∙ now.flag core from few));
          }
