mod Soundness
mod Spoken
