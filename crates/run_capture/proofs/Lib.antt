mod Failing
mod Recorded
