-- How loud the hits of a MIDI file are: beside each position the loudest hit of its sound on its step. MidiFiles.antt has the velocities
-- of its files too.
use Rattle.std.specs.Prelude.{Ok, ◌≡◌, refl, [], ◌∷◌, map}
use Rattle.cases.specs.Through.{importing}
use Rattle.cases.specs.MidiMade.{tune, end, loud}

-- one sound on one step with 20, 80 and 50, the loudest second, first and last. Fails: the first, the last or the second kept
any_order :
    map (λ track. loud (tune 4 track))
    ((0x00 ∷ 0x90 ∷ 0x26 ∷ 20 ∷ 0x00 ∷ 0x26 ∷ 80 ∷ 0x00 ∷ 0x26 ∷ 50 ∷ end)
    ∷ (0x00 ∷ 0x90 ∷ 0x26 ∷ 80 ∷ 0x00 ∷ 0x26 ∷ 50 ∷ 0x00 ∷ 0x26 ∷ 20 ∷ end)
    ∷ (0x00 ∷ 0x90 ∷ 0x26 ∷ 50 ∷ 0x00 ∷ 0x26 ∷ 20 ∷ 0x00 ∷ 0x26 ∷ 80 ∷ end) ∷ [])
    ≡ Ok (80 ∷ []) ∷ Ok (80 ∷ []) ∷ Ok (80 ∷ []) ∷ []
unfolding importing
any_order = refl

-- division 8, ticks 0, 1 and 1 of one step on two channels. Fails: a velocity for each tick or channel, the first tick's alone
one_step : loud (tune 8 (0x00 ∷ 0x90 ∷ 0x24 ∷ 0x14 ∷ 0x01 ∷ 0x24 ∷ 0x20 ∷ 0x00 ∷ 0x99 ∷ 0x24 ∷ 0x7F ∷ end)) ≡ Ok (127 ∷ [])
unfolding importing
one_step = refl

-- the next step begins anew, and so does the next bar. Fails: the loudest so far kept, 100 100 100
begins_anew : loud (tune 4 (0x00 ∷ 0x90 ∷ 0x24 ∷ 100 ∷ 0x01 ∷ 0x24 ∷ 1 ∷ 0x0F ∷ 0x24 ∷ 2 ∷ end)) ≡ Ok (100 ∷ 1 ∷ 2 ∷ [])
unfolding importing
begins_anew = refl

-- equal hits of two sounds in turn. Fails: one loudest for a step, whatever the sound; only neighbours compared
by_sound : loud (tune 4 (0x00 ∷ 0x90 ∷ 0x26 ∷ 70 ∷ 0x00 ∷ 0x24 ∷ 30 ∷ 0x00 ∷ 0x26 ∷ 60 ∷ 0x00 ∷ 0x24 ∷ 40 ∷ end)) ≡ Ok (40 ∷ 70 ∷ [])
unfolding importing
by_sound = refl

-- 42, 36, 42 with 10, 20, 30: n036 stands first. Fails: file order, 10 20 30
positions_order : loud (tune 4 (0x00 ∷ 0x90 ∷ 0x2A ∷ 10 ∷ 0x04 ∷ 0x24 ∷ 20 ∷ 0x04 ∷ 0x2A ∷ 30 ∷ end)) ≡ Ok (20 ∷ 10 ∷ 30 ∷ [])
unfolding importing
positions_order = refl

-- a note-on with velocity 0 is no hit, and softens none. Fails: velocity 0 stored, the last kept
velocity_0 : loud (tune 4 (0x00 ∷ 0x90 ∷ 0x24 ∷ 5 ∷ 0x00 ∷ 0x24 ∷ 0 ∷ end)) ≡ Ok (5 ∷ [])
unfolding importing
velocity_0 = refl
