-- What reading back promises: the reply, and the three lent lists afterwards.
use Rattle.std.specs.Prelude.{Err, Ok, ℕ, ◌≡◌, List, map, length}
use Rattle.segment.specs.Results.{Answer}
use Rattle.segment.specs.declared.replies.BarRead.{BarRead}
use Rattle.calls.specs.Replies.{filled}
use Rattle.pad_map.specs.Bars.{Bar}
use Rattle.pad_words.specs.Calls.{pad_read}

-- how many hits, and the length
abbrev pub read_answer : Answer Bar → Answer BarRead
read_answer (Ok b) = Ok (record { hits = length b.hits; len = b.len })
read_answer (Err x) = Err x

-- what goes into the lists
abbrev pub bar_sounds : Bar → List ℕ
bar_sounds b = map (λ h. h.sound) b.hits

abbrev pub bar_steps : Bar → List ℕ
bar_steps b = map (λ h. h.step) b.hits

abbrev pub bar_velocities : Bar → List ℕ
bar_velocities b = map (λ h. h.velocity) b.hits

pub record BarReadBack (pad : List ℕ) (id : ℕ) (sounds steps velocities : List ℕ) (r : Answer BarRead)
    (sounds' steps' velocities' : List ℕ) : Type 0 where
  pub reply : r ≡ read_answer (pad_read pad id (length sounds) (length steps) (length velocities))
  pub sounds_left : sounds' ≡ filled bar_sounds (pad_read pad id (length sounds) (length steps) (length velocities)) sounds
  pub steps_left : steps' ≡ filled bar_steps (pad_read pad id (length sounds) (length steps) (length velocities)) steps
  pub velocities_left : velocities'
      ≡ filled bar_velocities (pad_read pad id (length sounds) (length steps) (length velocities)) velocities
