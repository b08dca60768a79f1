-- Every heard word is tested, and an inbox is sound exactly when its count is small and all words are clear.
use Rattle.std.proofs.Common.{◌≡◌, ℕ, ◌-◌, refl, arith, rules}
use Rattle.std.proofs.lemmas.Iterator.{cases_from_all, YieldsList-from_range}
use Rattle.model.specs.Inbox.{count_of, SoundInbox}
use Rattle.model.specs.Tells.{Tells}
use Rattle.inbox.specs.Heard.{WordClear}
use Rattle.inbox.proofs.Highs.{sound_told}
use Rattle.inbox.proofs.sound.Goals as goal
use Rattle.inbox.proofs.sound.Goals.{After-all}

told : (c : After-all) (n : ℕ) → 128 - 0 ≡ n → Tells c.all.result (SoundInbox c.args.x.now)
told c n e =
    let x = c.args.x.now in
    sound_told x _ n (omega arith) c.requires c.if-count-le4096.true
    (cases_from_all _ _ _ (WordClear x (count_of x)) (λ w. ¬ WordClear x (count_of x) w) c.all.ensures.ran (YieldsList-from_range 0 128 n refl e) (λ w q k. search rules) (λ w q k. search rules))

pub returns-then-count-le4096 : goal.returns-then-count-le4096
returns-then-count-le4096 c = told c 128 refl
