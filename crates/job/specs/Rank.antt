-- Precedence as one number for each job, equal ones by index, for the code's search: docs/DECISIONS.md, "Precedence as one number". That
-- this is the precedence of the definition (`job_precedes`), for open jobs whose left and budget are below 2^20, is proved (`rank_precedes_lem`,
-- proofs/RankLaws.antt).
use Rattle.std.specs.Prelude.{ℕ, ◌+◌, ◌-◌, ◌*◌, Bool, cond, ◌&&◌, ◌||◌, List, eqb, ltb, length, get_or}
use Rattle.job.specs.Job.{is_urgent}
use Rattle.job.specs.Search.{Candidates}
use Rattle.job.specs.declared.job.Job.{Job}

-- what a slot of left counts in a rank: 2^20, more than two budgets below 2^20 differ by
abbrev pub slot_weight : ℕ
slot_weight = 1_048_576

-- what a budget is taken from, so that the larger gives the smaller rank: 2^32, more than any budget of 32 bits
abbrev pub budget_end : ℕ
budget_end = 4_294_967_296

-- what a job that is not urgent has more in its rank: 2^53, more than the rank of any urgent job of 32 bits
abbrev pub later : ℕ
later = 9_007_199_254_740_992

-- the rank of a task that does not wait: 2^54, more than that of any open job of 32 bits
abbrev pub never : ℕ
never = 18_014_398_509_481_984

-- the rank among jobs alike in urgency: smaller left, then larger budget
unfoldable pub alike_rank : Job → ℕ
alike_rank j = slot_weight * j.left + (budget_end - j.budget)

-- the rank of a job: `later` more where it is not urgent; a closed one's is `never`
unfoldable pub rank : Job → ℕ
rank j = cond j.«open» (cond (is_urgent j) (alike_rank j) (later + alike_rank j)) never

-- a task of this rank waits: closed and picked ones have the rank `never`
unfoldable pub waits : ℕ → Bool
waits r = ltb r never

-- the task of rank x at index i precedes the task of rank y at index j, both waiting: the smaller rank first, "only then the lower number"
unfoldable pub rank_precedes : (x i y j : ℕ) → Bool
rank_precedes x i y j = ltb x y || (eqb x y && ltb i j)

-- the tasks of a list that has the rank of each: who waits and who precedes whom, by the ranks
unfoldable pub ranked : List ℕ → Candidates
ranked l =
    record {
      count = length l;
      waits = λ i. waits (get_or l i 0);
      precedes = λ i j. rank_precedes (get_or l i 0) i (get_or l j 0) j;
    }
