-- Every run is sound, and so every reply of it is right.
use Rattle.std.proofs.Common.{List, [], ◌∷◌, refl, subst}
use Rattle.std.specs.Prelude.{Contains}
use Rattle.zone.proofs.LawLists.{none_in}
use Rattle.world_truth.specs.Worlds.{World, IsWorld}
use Rattle.runs.specs.States.{Turn, Open, Site, State, moved}
use Rattle.runs.specs.Runs.{Run, Always}
use Rattle.runs.proofs.Clocks.{clock_of_run}
use Rattle.laws.specs.Headline.{IsHonest, IsHomeIn, RepliesAreRight}
use Rattle.laws.specs.Replies.{RepliesAre}
use Rattle.laws.specs.Caused.{IsExplained}
use Rattle.laws.specs.RightAndTimely.{AreRightAndTimely, RightAndTimely}
use Rattle.laws.specs.Truthful.{HoldsTruth, HeldIsTrue}
use Rattle.laws.proofs.Runs.{run_explained}
use Rattle.laws.proofs.Sound.{turn_done}

pub sound_run : (W : World) (site : Site) (run : List Turn) (s : State) → IsWorld W → IsHomeIn W site.home → Run site run s → IsHonest W site.port run
    → HoldsTruth W site.port run s × Always (RepliesAreRight W) run
sound_run W site [] s w ours new honest = (
  record {
    stores = record {
      cache = λ k h m. absurd (none_in (k, h) (subst (λ (es : _). Contains es (k, h)) new.cache m));
      cuts = λ n k m. absurd (none_in (n, k) (subst (λ (es : _). Contains es (n, k)) new.delegations m));
    };
    queries = λ q m. absurd (none_in q (subst (λ (qs : List Open). Contains qs q) new.queries m));
    numbers = λ k who none. absurd none;
  },
  tt,
)
sound_run W site (t ∷ past) s w ours (old, legal, step) honest =
    let (sound, right) = sound_run W site past old w ours legal honest.1 in
    let here = (clock_of_run site past old legal).1 in
    let again : HoldsTruth W site.port past (moved old t.event) = record { stores = sound.stores; queries = sound.queries; numbers = sound.numbers } in
    let done = turn_done W w site ours t past (moved old t.event) here again honest.0 t.event t.out s refl refl step.turn in
    (done.0, (done.1, right))

pub every_reply_is_right : (W : World) (site : Site) (run : List Turn) (s : State) → IsWorld W → IsHomeIn W site.home → Run site run s
    → Always (λ t past. IsHonest W site.port (t ∷ past) → RepliesAreRight W t past) run
every_reply_is_right W site [] s w ours legal = tt
every_reply_is_right W site (t ∷ past) s w ours (old, legal, step) = (
  λ honest. (sound_run W site (t ∷ past) s w ours (old, legal, step) honest).1.0,
  every_reply_is_right W site past old w ours legal,
)

pub held_is_true : HeldIsTrue
held_is_true W site run s w ours legal honest = (sound_run W site run s w ours legal honest).0

both : (W : World) (site : Site) (run : List Turn) → Always (λ t past. IsHonest W site.port (t ∷ past) → RepliesAreRight W t past) run
    → Always (RepliesAre site.home (IsExplained site.port site.home)) run → Always (λ t past. IsHonest W site.port (t ∷ past) → AreRightAndTimely W site t past) run
both W site [] right timely = tt
both W site (t ∷ past) right timely = (λ honest. record { right = right.0 honest; timely = timely.0 }, both W site past right.1 timely.1)

pub right_and_timely : RightAndTimely
right_and_timely W site run s w ours legal = both W site run (every_reply_is_right W site run s w ours legal) (run_explained site run s legal).1
