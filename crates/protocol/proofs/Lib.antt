mod Backing
